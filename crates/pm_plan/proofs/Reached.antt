-- What moves lead to from the start is settled, or it comes after what waits, or the goal costs no more.
use Rattle.std.proofs.Common.{◌≡◌, List, [], ◌∷◌, ◌⊎◌, inl, inr, refl, sym, ap, subst, All, Contains, IsSome}
use Rattle.pm_props.specs.declared.set.PropSet.{PropSet}
use Rattle.pm_props.specs.declared.kind.RuleId.{RuleId}
use Rattle.pm_weights.specs.declared.Cost.{Cost}
use Rattle.pm_props.specs.Sets.{union}
use Rattle.pm_weights.specs.Weights.{IsWeight, plus, IsBelow, IsAtMost}
use Rattle.pm_weights.proofs.CostOrder.{at_most_trans, at_most_from_below, below_from_at_most, plus-at_most}
use Rattle.pm_rules.specs.declared.table.TableRow.{TableRow}
use Rattle.pm_rules.specs.Steps.{IsOpen}
use Rattle.pm_rules.specs.Certificates.{HasRow}
use Rattle.pm_plan.specs.declared.moves.Move.{Move}
use Rattle.pm_plan.specs.declared.search.Search.{Search}
use Rattle.pm_plan.specs.Moves.{after}
use Rattle.pm_plan.specs.Tracks.{Leads}
use Rattle.pm_plan.specs.Searches.{cost_known, link_waiting, HasGoal, IsKnownAt, Offered, IsSoundSearch, IsClosed}
use Rattle.pm_plan.proofs.Options.{and_parts_of, some_and_from}
use Rattle.pm_rules.proofs.RowOrder.{below_trans, same_row}
use Rattle.pm_plan.proofs.Reaching.{goal_more}
use Rattle.pm_plan.proofs.Walks.{makes_dearer, leads_dearer}

pub has_row : (rows : List TableRow) (row : TableRow) (set : PropSet) (cost : Cost) → Contains rows row → row.set ≡ set → IsAtMost row.cost cost → HasRow rows set cost
has_row rows row set cost (k, within, e) same low = (k, row, within, e, (same, low))

pub offered_more : (asked : PropSet) (s : Search) (row : TableRow) (cost : Cost) → IsAtMost row.cost cost → Offered asked s row → Offered asked s (record { set = row.set; cost = cost })
offered_more asked s row cost low (inl h) = inl (h.0, goal_more s row.cost cost h.1 low)
offered_more asked s row cost low (inr h) =
    let had = and_parts_of (cost_known s row.set) (λ (c : Cost). IsAtMost c row.cost) h in
    inr (some_and_from (cost_known s row.set) (λ (c : Cost). IsAtMost c cost) had.0 had.1 (at_most_trans had.0 row.cost cost had.2 low))

-- a row that is met costs no more than this one, and has its set
pub record IsMet (s : Search) (row : TableRow) : Type 0 where
  pub had : TableRow
  pub set : had.set ≡ row.set
  pub low : IsAtMost had.cost row.cost
  pub there : Contains s.rows.items had ⊎ IsSome (link_waiting s had)

-- what waits is cheaper, or has the set and costs no more
pub record WaitsFor (s : Search) (row : TableRow) : Type 0 where
  pub wait : TableRow
  pub waits : IsSome (link_waiting s wait)
  pub low : IsBelow wait.cost row.cost ⊎ ((wait.set ≡ row.set) × IsAtMost wait.cost row.cost)

abbrev pub Found : Search → TableRow → Type 0
Found s row = HasRow s.rows.items row.set row.cost ⊎ (WaitsFor s row ⊎ HasGoal s row.cost)

module _ (moves : List Move) (start : TableRow) (asked : PropSet) (s : Search) (sound : IsSoundSearch moves start asked s) where
  pub is_met : (row : TableRow) → IsKnownAt s row → IsMet s row
  is_met row h =
      let had = and_parts_of (cost_known s row.set) (λ (c : Cost). IsAtMost c row.cost) h in
      record { had = record { set = row.set; cost = had.0 }; set = refl; low = had.2; there = sound.known_met (record { set = row.set; cost = had.0 }) had.1 }

  pub found_here : (row : TableRow) → Offered asked s row → Found s row
  found_here row (inl h) = inr (inr h.1)
  found_here row (inr h) =
      let met = is_met row h in
      elim met.there [
        | inl there ↦ inl (has_row s.rows.items met.had row.set row.cost there met.set met.low)
        | inr waits ↦ inr (inl (record { wait = met.had; waits = waits; low = inr (met.set, met.low) }))
      ]

  module _ (closed : IsClosed moves asked s) (weights : All (λ m. IsWeight m.weight) moves) where
    offered_after : (row had : TableRow) (m : Move) → had.set ≡ row.set → IsAtMost had.cost row.cost → Contains s.rows.items had → Contains moves m → IsOpen m.step row.set → Offered asked s (after row m)
    offered_after row had m same low there among opened =
        let from_had = closed had there m among (subst (IsOpen m.step) (sym same) opened) in
        subst (Offered asked s) (same_row (record { set = union had.set m.step.targets; cost = plus row.cost m.weight }) (after row m) (ap (λ (t : PropSet). union t m.step.targets) same) refl)
        (offered_more asked s (after had m) (plus row.cost m.weight) (plus-at_most had.cost row.cost m.weight low) from_had)

    pub found : (chain : List RuleId) (row end : TableRow) → Offered asked s row → Leads moves row chain end → Found s end
    found [] row end offered e = subst (Found s) e (found_here row offered)
    found (id ∷ chain) row end (inl h) (next, makes, rest) =
        inr (inr (goal_more s row.cost end.cost h.1
        (at_most_trans row.cost next.cost end.cost (at_most_from_below row.cost next.cost (makes_dearer moves weights id row next makes)) (leads_dearer moves weights chain next end rest))))
    found (id ∷ chain) row end (inr h) (next, makes, rest) =
        let met = is_met row h in
        let dearer = below_trans row.cost next.cost end.cost (makes_dearer moves weights id row next makes) (leads_dearer moves weights chain next end rest) in
        elim met.there [
          | inl there ↦ found chain next end (subst (Offered asked s) (sym makes.leads) (offered_after row met.had makes.move met.set met.low there makes.among makes.opened)) rest
          | inr waits ↦ inr (inl (record { wait = met.had; waits = waits; low = inl (below_from_at_most met.had.cost row.cost end.cost met.low dearer) }))
        ]
