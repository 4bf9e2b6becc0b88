-- Where the rows are full, the rows and what waits bound every chain.
use Rattle.std.proofs.Common.{◌≡◌, ◌+◌, Option, Some, List, ◌++◌, map, ◌⊎◌, inl, inr, sym, ap, ◌∙◌, subst, arith, All, Contains, IsSome, option_map}
use Rattle.std.specs.Prelude.{slice_index_or}
use Rattle.std.proofs.lemmas.List.Elements.{All-contains, All-append, All-map, Contains-get_or, Contains-append_left, Contains-append_right}
use Rattle.std.proofs.lemmas.Option.{slice_get-map}
use Rattle.std.proofs.lemmas.Map.Views.{Contains-keys_from_lookup, All-keys_from_lookup, tells_apart}
use Rattle.std.proofs.lemmas.Cmp.{eq_by_cmp_equiv, then_total, on_total, nat_cmp_total}
use Rattle.std.specs.BTreeMap.{keys}
use Rattle.std.specs.Cmp.{IsTotalOrder}
use Rattle.std.specs.Ordering.{eq_by_cmp}
use Rattle.pm_props.specs.declared.set.PropSet.{PropSet}
use Rattle.pm_props.specs.declared.kind.RuleId.{RuleId}
use Rattle.pm_weights.specs.declared.Cost.{Cost}
use Rattle.pm_props.specs.Sets.{union, IsSubset}
use Rattle.pm_weights.specs.Weights.{IsWeight, plus, no_cost, IsBelow, IsAtMost}
use Rattle.pm_weights.proofs.CostOrder.{at_most_itself, no_cost_at_most, below_from_at_most, not_below_and_at_most, at_most_or_below}
use Rattle.pm_rules.specs.declared.rule.Rule.{Rule}
use Rattle.pm_rules.specs.declared.table.TableRow.{TableRow}
use Rattle.pm_rules.specs.declared.table.Claim.{Claim}
use Rattle.pm_rules.specs.declared.table.Claim.TheVariants.{Least}
use Rattle.pm_rules.specs.Rules.{rule_at, IsEnabled}
use Rattle.pm_rules.specs.Chains.{weigh, IsUseful}
use Rattle.pm_rules.specs.Certificates.{Within, EndsClaim, HasRow, IsCertificate, Reaches, IsTableRowBefore}
use Rattle.pm_rules.proofs.Opens.{open_from_enabled}
use Rattle.pm_rules.proofs.Refutes.{bounded}
use Rattle.pm_plan.specs.declared.moves.Move.{Move}
use Rattle.pm_plan.specs.declared.search.Place.{Place}
use Rattle.pm_plan.specs.declared.search.Goal.{Goal}
use Rattle.pm_plan.specs.declared.search.Search.{Search}
use Rattle.pm_plan.specs.Moves.{move_of, after, AreMoves}
use Rattle.pm_plan.specs.Tracks.{LinksTo}
use Rattle.pm_plan.specs.Searches.{place_cmp, place_of, cost_known, link_waiting, HasGoal, Offered, IsExplored, IsFull}
use Rattle.pm_plan.specs.Plans.{IsBelowChains, IsCrowded}
use Rattle.pm_plan.proofs.Options.{same_some, some_from, and_parts_of, some_and_from, if_some_at, contains_at, at_contained}
use Rattle.pm_rules.proofs.RowOrder.{below_trans, both_at_most, same_row, before_at_most, before_itself, before_trans}
use Rattle.pm_plan.proofs.Order.{below_plus, place_exact}
use Rattle.pm_plan.proofs.Reaching.{goal_more}
use Rattle.pm_plan.proofs.Walks.{link_leads, leads_reaches}
use Rattle.pm_plan.proofs.Reached.{has_row, is_met, Found}
use Rattle.pm_plan.proofs.Planning.{found_reached, row_reached, same_rows, sets_differ, no_asked}

-- ---- what waits, as a list
places_total : IsTotalOrder place_cmp
places_total = then_total (then_total (on_total (λ (p : Place). p.cost.class) nat_cmp_total) (on_total (λ (p : Place). p.cost.minor) nat_cmp_total)) (on_total (λ (p : Place). p.set) nat_cmp_total)

row_at : Place → TableRow
row_at p = record { set = p.set; cost = p.cost }

waiting_rows : Search → List TableRow
waiting_rows s = map row_at (keys s.waiting)

in_waiting : (s : Search) (row : TableRow) → IsSome (link_waiting s row) → Contains (waiting_rows s) row
unfolding waiting_rows row_at
in_waiting s row waits =
    let key = Contains-keys_from_lookup {eq = eq_by_cmp place_cmp} (tells_apart {R = place_cmp} place_exact) (place_of row) s.waiting.entries waits in
    let at = at_contained (keys s.waiting) (place_of row) key in
    contains_at (map row_at (keys s.waiting)) at.0 row (slice_get-map row_at (keys s.waiting) at.0 ∙ ap (λ (o : Option Place). option_map row_at o) at.1)

all_waiting : (P : TableRow → Type 0) (s : Search) → ((row : TableRow) → IsSome (link_waiting s row) → P row) → All P (waiting_rows s)
unfolding waiting_rows row_at
all_waiting P s h =
    All-map P row_at (keys s.waiting) (All-keys_from_lookup {eq = eq_by_cmp place_cmp} (eq_by_cmp_equiv places_total) (λ (p : Place). P (row_at p)) s.waiting.entries (λ p some. h (row_at p) some))

-- ---- the least cost above a cost
above : Cost → Cost
above c = record { class = c.class; minor = c.minor + 1 }

above_from_below : (a b : Cost) → IsBelow a b → IsAtMost (above a) b
unfolding above
above_from_below a b (inl h) = inl h
above_from_below a b (inr h) = inr (h.0, omega (arith, h.1))

below_from_above : (a b : Cost) → IsAtMost (above a) b → IsBelow a b
unfolding above
below_from_above a b (inl h) = inl h
below_from_above a b (inr h) = inr (h.0, omega (arith, h.1))

-- ---- what a certificate asks of a row
abbrev GoesOn : List Rule → PropSet → List RuleId → PropSet → Claim → List TableRow → TableRow → Type 0
GoesOn book names barred asked claim table row = Within claim row.cost → (id : RuleId) (rule : Rule) → rule_at book id ≡ Some rule → IsUseful book names barred asked id rule
    → IsEnabled names barred row.set id rule → EndsClaim claim (plus row.cost rule.weight) ⊎ HasRow table (union row.set rule.kind.targets) (plus row.cost rule.weight)

abbrev LacksAsked : PropSet → Claim → TableRow → Type 0
LacksAsked asked claim row = Within claim row.cost → IsSubset asked row.set → ⊥

-- ---- nothing is both before a row and no later than a row that waits
no_room_before : (row wait : TableRow) → IsTableRowBefore row wait → IsBelow wait.cost row.cost ⊎ ((wait.set ≡ row.set) × IsAtMost wait.cost row.cost) → ⊥
no_room_before row wait before (inl k) = not_below_and_at_most wait.cost row.cost k (before_at_most row wait before)
no_room_before row wait (inl h) (inr k) = not_below_and_at_most row.cost wait.cost h k.1
no_room_before row wait (inr h) (inr k) = omega (arith, h.1, k.0)

no_room : (row next wait : TableRow) → IsTableRowBefore row next → (next ≡ wait) ⊎ IsTableRowBefore next wait
    → IsBelow wait.cost row.cost ⊎ ((wait.set ≡ row.set) × IsAtMost wait.cost row.cost) → ⊥
no_room row next wait before (inl e) low = no_room_before row wait (subst (IsTableRowBefore row) e before) low
no_room row next wait before (inr later) low = no_room_before row wait (before_trans row next wait before later) low

module _ (book : List Rule) (names : PropSet) (barred : List RuleId) (held asked : PropSet) (moves : List Move) (are : AreMoves book names barred asked moves)
    (weights : All (λ m. IsWeight m.weight) moves) (s : Search) (ex : IsExplored moves (record { set = held; cost = no_cost }) asked s) (full : IsFull s) where
  -- what the goal costs, the next row is below
  goal_above_next : (cost : Cost) → HasGoal s cost → IsBelow full.next.cost cost
  goal_above_next cost h =
      let g = and_parts_of s.goal (λ (g : Goal). IsAtMost g.row.cost cost) h in
      elim (at_most_or_below g.0.row.cost full.next.cost) [
        | inl k ↦ absurd (full.below (some_and_from s.goal (λ (x : Goal). IsAtMost x.row.cost full.next.cost) g.0 g.1 k))
        | inr k ↦ below_trans full.next.cost g.0.row.cost cost k g.2
      ]

  next_first : (row : TableRow) → IsSome (link_waiting s row) → IsAtMost full.next.cost row.cost
  next_first row waits = elim (full.is_next.first row waits) [
    | inl e ↦ subst (λ (r : TableRow). IsAtMost full.next.cost r.cost) e (at_most_itself full.next.cost)
    | inr b ↦ before_at_most full.next row b
  ]

  row_before : (row : TableRow) → Contains s.rows.items row → IsTableRowBefore row full.next
  row_before row there = ex.sound.later row full.next there (some_from (link_waiting s full.next) full.link full.is_next.waits)

  -- a row that is met is a row or waits, or the next row is below it
  met_or_above : (row : TableRow) → Offered asked s row → IsAtMost (above full.next.cost) row.cost ⊎ HasRow (s.rows.items ++ waiting_rows s) row.set row.cost
  met_or_above row (inl h) = inl (above_from_below full.next.cost row.cost (goal_above_next row.cost h.1))
  met_or_above row (inr h) =
      let met = is_met moves (record { set = held; cost = no_cost }) asked s ex.sound row h in
      inr (has_row (s.rows.items ++ waiting_rows s) met.had row.set row.cost (elim met.there [
        | inl there ↦ Contains-append_left s.rows.items (waiting_rows s) met.had there
        | inr waits ↦ Contains-append_right s.rows.items (waiting_rows s) met.had (in_waiting s met.had waits)
      ]) met.set met.low)

  certifies : IsCertificate book names barred held asked (Least (above full.next.cost)) (s.rows.items ++ waiting_rows s)
  certifies = record {
    start = λ low. elim (met_or_above (record { set = held; cost = no_cost }) ex.begun) [
      | inl e ↦ absurd (not_below_and_at_most no_cost (above full.next.cost) low e)
      | inr h ↦
          let is : h.1 ≡ record { set = held; cost = no_cost } = same_row h.1 (record { set = held; cost = no_cost }) h.4.0 (both_at_most h.1.cost no_cost h.4.1 (no_cost_at_most h.1.cost)) in
          subst (Contains (s.rows.items ++ waiting_rows s)) is (h.0, h.2, h.3)
    ];
    steps = All-append (GoesOn book names barred asked (Least (above full.next.cost)) (s.rows.items ++ waiting_rows s)) s.rows.items (waiting_rows s)
        (λ k d within low id rule e useful enabled.
        met_or_above (after (slice_index_or s.rows.items k d) (move_of id rule))
        (ex.closed (slice_index_or s.rows.items k d) (Contains-get_or s.rows.items k d within) (move_of id rule) (are.whole id rule e useful) (open_from_enabled names barred (slice_index_or s.rows.items k d).set id rule enabled)))
        (all_waiting (GoesOn book names barred asked (Least (above full.next.cost)) (s.rows.items ++ waiting_rows s)) s (λ row waits low id rule e useful enabled.
        let weight = All-contains (λ (m : Move). IsWeight m.weight) moves (move_of id rule) weights (are.whole id rule e useful) in
        inl (above_from_below full.next.cost (plus row.cost rule.weight)
        (below_from_at_most full.next.cost row.cost (plus row.cost rule.weight) (next_first row waits) (below_plus row.cost rule.weight weight)))));
    ends = All-append (LacksAsked asked (Least (above full.next.cost))) s.rows.items (waiting_rows s)
        (λ k d within low has. no_asked book names barred held asked moves are weights s ex (slice_index_or s.rows.items k d) (Contains-get_or s.rows.items k d within) has)
        (all_waiting (LacksAsked asked (Least (above full.next.cost))) s (λ row waits low has. ex.sound.known_open row.set (some_from (cost_known s row.set) row.cost (ex.sound.waiting_known row waits)) has));
  }

  next_below : IsBelowChains book names barred held asked full.next.cost
  next_below chain leads = below_from_above full.next.cost (weigh book chain) (bounded book names barred held asked (above full.next.cost) (s.rows.items ++ waiting_rows s) certifies chain leads)

  -- what is reached before the next row is a row
  found_before : (row : TableRow) → IsTableRowBefore row full.next → Found s row → HasRow s.rows.items row.set row.cost
  found_before row before (inl h) = h
  found_before row before (inr (inl h)) = absurd (no_room row full.next h.wait before (full.is_next.first h.wait h.waits) h.low)
  found_before row before (inr (inr h)) = absurd (full.below (goal_more s row.cost full.next.cost h (before_at_most row full.next before)))

  row_least : (row other : TableRow) (chain : List RuleId) → Contains s.rows.items row → Reaches book names barred held asked other chain → other.set ≡ row.set → IsAtMost row.cost other.cost
  row_least row other chain there h same = elim (at_most_or_below row.cost other.cost) [
    | inl k ↦ k
    | inr k ↦
        let before : IsTableRowBefore other full.next = inl (below_trans other.cost row.cost full.next.cost k (before_at_most row full.next (row_before row there))) in
        let at = found_before other before (found_reached book names barred held asked moves are weights s ex other chain h) in
        let cost = same_rows book names barred held asked moves are weights s ex at.1 row (at.0, at.2, at.3) there (at.4.0 ∙ same) in
        subst (λ (c : Cost). IsAtMost c other.cost) cost at.4.1
  ]

  pub crowded_right : IsCrowded book names barred held asked s.rows.items
  crowded_right =
      let led = link_leads moves (record { set = held; cost = no_cost }) s.rows.items s.links.items ex.sound.linked full.link full.next
      (if_some_at (link_waiting s full.next) (λ l. LinksTo moves (record { set = held; cost = no_cost }) s.rows.items l full.next) full.link full.is_next.waits (ex.sound.waiting_linked full.next)) in
      record {
        full = full.full;
        reached = λ k d within. row_reached book names barred held asked moves are weights s ex _ (Contains-get_or s.rows.items k d within);
        least = λ k d within other chain h same. row_least _ other chain (Contains-get_or s.rows.items k d within) h same;
        below = λ k d within chain leads.
            below_from_at_most _ full.next.cost (weigh book chain) (before_at_most _ full.next (row_before _ (Contains-get_or s.rows.items k d within))) (next_below chain leads);
        once = sets_differ book names barred held asked moves are weights s ex;
        ordered = ex.sound.ordered;
        next = full.next;
        next_reached = (led.0, leads_reaches book names barred asked moves are held full.next led.0 led.1);
        next_below = next_below;
        next_new = λ k d within same.
            let row = slice_index_or s.rows.items k d in
            let there = Contains-get_or s.rows.items k d within in
            let cost : row.cost ≡ full.next.cost = same_some row.cost full.next.cost (sym (ex.sound.rows_known row there) ∙ ap (cost_known s) same
            ∙ ex.sound.waiting_known full.next (some_from (link_waiting s full.next) full.link full.is_next.waits)) in
            before_itself row full.next (same_row row full.next same cost) (row_before row there);
        first = λ k d within. row_before _ (Contains-get_or s.rows.items k d within);
        whole = λ row chain h before. found_before row before (found_reached book names barred held asked moves are weights s ex row chain h);
      }
