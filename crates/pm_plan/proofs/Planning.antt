-- What the search met is the exact table and a certificate, and its end tells the answer.
use Rattle.std.proofs.Common.{◌≡◌, ◌≢◌, Some, None, List, ◌⊎◌, inl, inr, sym, ap, ◌∙◌, subst, arith, All, AllPairs, Contains}
use Rattle.std.specs.Prelude.{slice_index_or}
use Rattle.std.proofs.lemmas.List.Elements.{All-contains, Contains-get_or}
use Rattle.pm_props.specs.declared.set.PropSet.{PropSet}
use Rattle.pm_props.specs.declared.kind.RuleId.{RuleId}
use Rattle.pm_weights.specs.declared.Cost.{Cost}
use Rattle.pm_props.specs.Sets.{IsSubset}
use Rattle.pm_weights.specs.Weights.{IsWeight, no_cost, IsBelow, IsAtMost}
use Rattle.pm_weights.proofs.CostOrder.{no_cost_at_most, at_most_from_below, not_below_and_at_most}
use Rattle.pm_rules.specs.declared.rule.Rule.{Rule}
use Rattle.pm_rules.specs.declared.table.TableRow.{TableRow}
use Rattle.pm_rules.specs.declared.table.Claim.{Claim}
use Rattle.pm_rules.specs.declared.table.Claim.TheVariants.{Least, NoChain}
use Rattle.pm_rules.specs.Chains.{weigh}
use Rattle.pm_rules.specs.Certificates.{Within, EndsClaim, HasRow, IsCertificate, Reaches, IsTable}
use Rattle.pm_rules.proofs.Opens.{open_from_enabled}
use Rattle.pm_rules.proofs.Refutes.{refuted, bounded}
use Rattle.pm_plan.specs.declared.moves.Move.{Move}
use Rattle.pm_plan.specs.declared.search.Goal.{Goal}
use Rattle.pm_plan.specs.declared.search.Search.{Search}
use Rattle.pm_plan.specs.Moves.{move_of, after, AreMoves}
use Rattle.pm_plan.specs.Tracks.{LinksTo, GoesBack, IsTrack}
use Rattle.pm_plan.specs.Searches.{cost_known, HasGoal, Offered, IsExplored, IsDone}
use Rattle.pm_plan.specs.Plans.{IsPlan, HasNoPlan}
use Rattle.pm_plan.proofs.Options.{same_some, some_from, and_parts_of, if_some_at, contains_at, at_contained}
use Rattle.pm_rules.proofs.RowOrder.{both_at_most, same_row, before_itself}
use Rattle.pm_plan.proofs.Reaching.{goal_more}
use Rattle.pm_plan.proofs.Walks.{row_leads, goes_back, track_leads, reaches_leads, leads_reaches}
use Rattle.pm_plan.proofs.Reached.{has_row, is_met, found, Found, WaitsFor}

-- ---- weights of moves
pub moves_weighed : (book : List Rule) (names : PropSet) (barred : List RuleId) (asked : PropSet) (moves : List Move) → AreMoves book names barred asked moves
    → All (λ rule. IsWeight rule.weight) book → All (λ m. IsWeight m.weight) moves
moves_weighed book names barred asked moves are weights = λ k d within.
    let is = are.each k d within in
    subst (λ (m : Move). IsWeight m.weight) (sym is.same) (All-contains (λ (r : Rule). IsWeight r.weight) book is.rule weights (contains_at book _ is.rule is.there))

-- ---- claims
excludes : (claim : Claim) (cost : Cost) → Within claim cost → EndsClaim claim cost → ⊥
excludes (Least least) cost h k = not_below_and_at_most cost least h k
excludes NoChain cost h k = k

module _ (book : List Rule) (names : PropSet) (barred : List RuleId) (held asked : PropSet) (moves : List Move) (are : AreMoves book names barred asked moves)
    (weights : All (λ m. IsWeight m.weight) moves) (s : Search) (ex : IsExplored moves (record { set = held; cost = no_cost }) asked s) where
  pub found_reached : (row : TableRow) (chain : List RuleId) → Reaches book names barred held asked row chain → Found s row
  found_reached row chain h =
      found moves (record { set = held; cost = no_cost }) asked s ex.sound ex.closed weights chain (record { set = held; cost = no_cost }) row ex.begun
      (reaches_leads book names barred asked moves are held row chain h)

  pub row_reached : (row : TableRow) → Contains s.rows.items row → (chain : List RuleId) × Reaches book names barred held asked row chain
  row_reached row there =
      let at = at_contained s.rows.items row there in
      let led = row_leads moves (record { set = held; cost = no_cost }) s.rows.items s.links.items ex.sound.linked at.0 row at.1 in
      (led.0, leads_reaches book names barred asked moves are held row led.0 led.1)

  pub same_rows : (a b : TableRow) → Contains s.rows.items a → Contains s.rows.items b → a.set ≡ b.set → a.cost ≡ b.cost
  same_rows a b there here same =
      same_some a.cost b.cost (sym (ex.sound.rows_known a there) ∙ ap (cost_known s) same ∙ ex.sound.rows_known b here)

  pub sets_differ : AllPairs (λ a b. a.set ≢ b.set) s.rows.items
  sets_differ = λ i j d low high same.
      let a = slice_index_or s.rows.items i d in
      let b = slice_index_or s.rows.items j d in
      let cost = same_rows a b (Contains-get_or s.rows.items i d (omega arith)) (Contains-get_or s.rows.items j d high) same in
      before_itself a b (same_row a b same cost) (ex.sound.ordered i j d low high)

  pub no_asked : (row : TableRow) → Contains s.rows.items row → IsSubset asked row.set → ⊥
  no_asked row there = ex.sound.known_open row.set (some_from (cost_known s row.set) row.cost (ex.sound.rows_known row there))

  -- ---- the search is done
  module _ (done : IsDone s) (claim : Claim) (ends : (cost : Cost) → HasGoal s cost → EndsClaim claim cost) (within : (row : TableRow) → Contains s.rows.items row → Within claim row.cost) where
    late_ends : (row : TableRow) → WaitsFor s row → EndsClaim claim row.cost
    late_ends row h =
        let low : IsAtMost h.wait.cost row.cost = elim h.low [
          | inl k ↦ at_most_from_below h.wait.cost row.cost k
          | inr k ↦ k.1
        ] in
        ends row.cost (goal_more s h.wait.cost row.cost (done h.wait h.waits) low)

    found_row : (row : TableRow) → Within claim row.cost → Found s row → HasRow s.rows.items row.set row.cost
    found_row row low (inl h) = h
    found_row row low (inr (inl h)) = absurd (excludes claim row.cost low (late_ends row h))
    found_row row low (inr (inr h)) = absurd (excludes claim row.cost low (ends row.cost h))

    pub is_table : IsTable book names barred held asked claim s.rows.items
    is_table = record {
      reached = λ k d low. let there = Contains-get_or s.rows.items k d low in (within _ there, row_reached _ there);
      whole = λ row chain h low. found_row row low (found_reached row chain h);
      once = sets_differ;
      ordered = ex.sound.ordered;
    }

    -- a row that is met is a row of the table, or ends the claim
    met_or_ends : (row : TableRow) → Offered asked s row → EndsClaim claim row.cost ⊎ HasRow s.rows.items row.set row.cost
    met_or_ends row (inl h) = inl (ends row.cost h.1)
    met_or_ends row (inr h) =
        let met = is_met moves (record { set = held; cost = no_cost }) asked s ex.sound row h in
        elim met.there [
          | inl there ↦ inr (has_row s.rows.items met.had row.set row.cost there met.set met.low)
          | inr waits ↦ inl (ends row.cost (goal_more s met.had.cost row.cost (done met.had waits) met.low))
        ]

    pub is_certificate : IsCertificate book names barred held asked claim s.rows.items
    is_certificate = record {
      start = λ low. elim (met_or_ends (record { set = held; cost = no_cost }) ex.begun) [
        | inl e ↦ absurd (excludes claim no_cost low e)
        | inr h ↦
            let is : h.1 ≡ record { set = held; cost = no_cost } = same_row h.1 (record { set = held; cost = no_cost }) h.4.0 (both_at_most h.1.cost no_cost h.4.1 (no_cost_at_most h.1.cost)) in
            subst (Contains s.rows.items) is (h.0, h.2, h.3)
      ];
      steps = λ k d low_k low id rule e useful enabled.
          let there = Contains-get_or s.rows.items k d low_k in
          met_or_ends (after _ (move_of id rule)) (ex.closed _ there (move_of id rule) (are.whole id rule e useful) (open_from_enabled names barred _ id rule enabled));
      ends = λ k d low_k low has. no_asked _ (Contains-get_or s.rows.items k d low_k) has;
    }

  pub no_plan_right : IsDone s → s.goal ≡ None → HasNoPlan book names barred held asked s.rows.items
  no_plan_right done e =
      let ends : (cost : Cost) → HasGoal s cost → ⊥ = λ cost h. let g = and_parts_of s.goal (λ (g : Goal). IsAtMost g.row.cost cost) h in let f = sym e ∙ g.1 in cc in
      let certificate = is_certificate done NoChain ends (λ row there. tt) in
      record {
        none = λ chain h. refuted book names barred held asked NoChain s.rows.items certificate chain h tt;
        exact = is_table done NoChain ends (λ row there. tt);
        certificate = certificate;
        few = ex.few;
      }

  pub plan_right : (g : Goal) (chain : List RuleId) → IsDone s → s.goal ≡ Some g → IsTrack s.links.items g.link chain → IsPlan book names barred held asked chain g.row.cost s.rows.items
  plan_right g chain done e track =
      let linked = if_some_at s.goal (λ x. LinksTo moves (record { set = held; cost = no_cost }) s.rows.items x.link x.row × IsSubset asked x.row.set) g e ex.sound.goal_linked in
      let reaches = leads_reaches book names barred asked moves are held g.row chain
      (track_leads moves (record { set = held; cost = no_cost }) s.rows.items s.links.items ex.sound.linked track g.row linked.0) in
      let ends : (cost : Cost) → HasGoal s cost → IsAtMost g.row.cost cost =
      λ cost h. let x = and_parts_of s.goal (λ (x : Goal). IsAtMost x.row.cost cost) h in
      subst (λ (y : Goal). IsAtMost y.row.cost cost) (same_some x.0 g (sym x.1 ∙ e)) x.2 in
      let within : (row : TableRow) → Contains s.rows.items row → IsBelow row.cost g.row.cost =
      λ row there. if_some_at s.goal (λ x. IsBelow row.cost x.row.cost) g e (ex.sound.goal_above row there) in
      let certificate = is_certificate done (Least g.row.cost) ends within in
      record {
        least = record {
          leads = record { enabled = reaches.enabled; ends = subst (IsSubset asked) (sym reaches.set) linked.1 };
          least = λ other leads. subst (λ (c : Cost). IsAtMost c (weigh book other)) (sym reaches.cost) (bounded book names barred held asked g.row.cost s.rows.items certificate other leads);
        };
        useful = reaches.useful;
        weighs = sym reaches.cost;
        exact = is_table done (Least g.row.cost) ends within;
        certificate = certificate;
        few = ex.few;
      }

  pub goal_goes_back : (g : Goal) → s.goal ≡ Some g → GoesBack s.links.items g.link
  goal_goes_back g e =
      let linked = if_some_at s.goal (λ x. LinksTo moves (record { set = held; cost = no_cost }) s.rows.items x.link x.row × IsSubset asked x.row.set) g e ex.sound.goal_linked in
      goes_back moves (record { set = held; cost = no_cost }) s.rows.items s.links.items g.link g.row ex.sound.linked linked.0
