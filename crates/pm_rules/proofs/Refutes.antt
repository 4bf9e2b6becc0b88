-- A certificate leaves no chain that its claim denies.
use Rattle.std.proofs.Common.{◌≡◌, ℕ, ◌+◌, Option, Some, List, [], ◌∷◌, ◌⊎◌, inl, inr, unwrap_or, option_map, sym, ap, ap₂, subst, zero-add, arith, Contains}
use Rattle.std.proofs.lemmas.List.Elements.{All-contains}
use Rattle.std.proofs.lemmas.List.Sums.{sum_by-cons}
use Rattle.pm_props.specs.declared.set.PropSet.{PropSet}
use Rattle.pm_props.specs.declared.kind.RuleId.{RuleId}
use Rattle.pm_weights.specs.declared.Weight.{Weight}
use Rattle.pm_weights.specs.declared.Cost.{Cost}
use Rattle.pm_props.specs.Sets.{union, IsSubset}
use Rattle.pm_weights.specs.Weights.{no_cost, plus, IsAtMost}
use Rattle.pm_weights.proofs.CostOrder.{at_most_itself, no_cost_at_most, at_most_from_parts, at_most_trans, below_from_at_most, not_below_and_at_most, at_most_or_below, plus-at_most}
use Rattle.pm_rules.specs.declared.rule.Rule.{Rule}
use Rattle.pm_rules.specs.declared.table.TableRow.{TableRow}
use Rattle.pm_rules.specs.declared.table.Claim.{Claim}
use Rattle.pm_rules.specs.declared.table.Claim.TheVariants.{Least, NoChain}
use Rattle.pm_rules.specs.Rules.{rule_at, IsEnabled}
use Rattle.pm_rules.specs.Chains.{IsChain, weight_at, reached, weigh, LeadsTo, IsUseful}
use Rattle.pm_rules.specs.Certificates.{Within, EndsClaim, HasRow, IsCertificate}
use Rattle.pm_rules.proofs.Followed.{targets_at_is, Follows, follows_itself, follows_useful, follows_useless, enabled_in_part, none_needed, asked_in_part}

-- ---- claims and costs
within_less : (claim : Claim) (a b : Cost) → IsAtMost a b → Within claim b → Within claim a
within_less (Least least) a b h k = below_from_at_most a b least h k
within_less NoChain a b h k = tt

ends_above : (claim : Claim) (a b : Cost) → IsAtMost a b → Within claim b → EndsClaim claim a → ⊥
ends_above (Least least) a b h k e = not_below_and_at_most a least (below_from_at_most a b least h k) e
ends_above NoChain a b h k e = e

-- what is spent, and what the rest of a chain costs
total : List Rule → Cost → List RuleId → Cost
total book spent chain = record { class = spent.class + (weigh book chain).class; minor = spent.minor + (weigh book chain).minor }

weight_at_is : (book : List Rule) (id : RuleId) (rule : Rule) → rule_at book id ≡ Some rule → weight_at book id ≡ rule.weight
weight_at_is book id rule e = ap (λ (o : Option Rule). unwrap_or (option_map (λ (r : Rule). r.weight) o) (record { class = 0; minor = 0 })) e

total-cons : (book : List Rule) (spent : Cost) (id : RuleId) (chain : List RuleId) → total book spent (id ∷ chain) ≡ total book (plus spent (weight_at book id)) chain
unfolding total
total-cons book spent id chain =
    let classes = sum_by-cons (λ (i : RuleId). (weight_at book i).class) id chain in
    let minors = sum_by-cons (λ (i : RuleId). (weight_at book i).minor) id chain in
    let class : (total book spent (id ∷ chain)).class ≡ (total book (plus spent (weight_at book id)) chain).class = omega (arith, classes) in
    let minor : (total book spent (id ∷ chain)).minor ≡ (total book (plus spent (weight_at book id)) chain).minor = omega (arith, minors) in
    ap₂ (λ (a b : ℕ). record { class = a; minor = b }) class minor

spent_at_most : (book : List Rule) (spent : Cost) (chain : List RuleId) → IsAtMost spent (total book spent chain)
unfolding total
spent_at_most book spent chain = at_most_from_parts spent (total book spent chain) (omega arith) (omega arith)

total_from_none : (book : List Rule) (chain : List RuleId) → total book no_cost chain ≡ weigh book chain
unfolding total
total_from_none book chain =
    ap₂ (λ (a b : ℕ). record { class = a; minor = b }) (zero-add (weigh book chain).class) (zero-add (weigh book chain).minor)

plus_more : (a : Cost) (w : Weight) → IsAtMost a (plus a w)
plus_more a w = at_most_from_parts a (plus a w) (omega arith) (omega arith)

module _ (book : List Rule) (names : PropSet) (barred : List RuleId) (held asked : PropSet) (claim : Claim) (table : List TableRow)
    (certificate : IsCertificate book names barred held asked claim table) where
  -- no chain goes on from a row to the asked names within the claim
  refuted_from : (chain : List RuleId) (full : PropSet) (spent : Cost) (row : TableRow) → Contains table row → IsAtMost row.cost spent
      → Follows book names barred asked full row.set → IsChain book names barred full chain → IsSubset asked (reached book full chain)
      → Within claim (total book spent chain) → ⊥
  refuted_from [] full spent row there cost f h ends low =
      let within = within_less claim row.cost (total book spent []) (at_most_trans row.cost spent (total book spent []) cost (spent_at_most book spent [])) low in
      All-contains (λ (r : TableRow). Within claim r.cost → IsSubset asked r.set → ⊥) table row certificate.ends there within
      (asked_in_part book names barred asked full row.set f ends)
  refuted_from (id ∷ chain) full spent row there cost f (rule, e, enabled, rest) ends low =
      let weight = weight_at_is book id rule e in
      let spent' : Cost = plus spent rule.weight in
      let low' : Within claim (total book spent' chain) =
      subst (λ (w : Weight). Within claim (total book (plus spent w) chain)) weight (subst (Within claim) (total-cons book spent id chain) low) in
      let ends' : IsSubset asked (reached book (union full rule.kind.targets) chain) =
      subst (λ (s : PropSet). IsSubset asked (reached book (union full s) chain)) (targets_at_is book id rule e) ends in
      let next_cost : IsAtMost (plus row.cost rule.weight) spent' = plus-at_most row.cost spent rule.weight cost in
      -- a rule that is not useful leaves us at the row
      let not_useless : (IsUseful book names barred asked id rule → ⊥) → ⊥ = λ not.
      refuted_from chain (union full rule.kind.targets) spent' row there (at_most_trans row.cost spent spent' cost (plus_more spent rule.weight))
      (follows_useless book names barred asked full row.set rule.kind.targets (none_needed book names barred asked full id rule enabled not) f) rest ends' low' in
      -- a useful one leads to the least cost or to another row
      let not_useful : IsUseful book names barred asked id rule → ⊥ = λ useful.
      let here : Within claim row.cost = within_less claim row.cost (total book spent' chain)
      (at_most_trans row.cost spent' (total book spent' chain) (at_most_trans row.cost spent spent' cost (plus_more spent rule.weight)) (spent_at_most book spent' chain)) low' in
      elim (All-contains (λ (r : TableRow). Within claim r.cost → (i : RuleId) (u : Rule) → rule_at book i ≡ Some u → IsUseful book names barred asked i u
      → IsEnabled names barred r.set i u → EndsClaim claim (plus r.cost u.weight) ⊎ HasRow table (union r.set u.kind.targets) (plus r.cost u.weight))
      table row certificate.steps there here id rule e useful (enabled_in_part book names barred asked full row.set id rule e f useful enabled)) [
        | inl above ↦ ends_above claim (plus row.cost rule.weight) (total book spent' chain) (at_most_trans (plus row.cost rule.weight) spent' (total book spent' chain) next_cost (spent_at_most book spent' chain)) low' above
        | inr next ↦ refuted_from chain (union full rule.kind.targets) spent' next.1 (next.0, next.2, next.3)
            (at_most_trans next.1.cost (plus row.cost rule.weight) spent' next.4.1 next_cost)
            (subst (Follows book names barred asked (union full rule.kind.targets)) (sym next.4.0) (follows_useful book names barred asked full row.set rule.kind.targets f)) rest ends' low'
      ] in
      not_useless not_useful

  pub refuted : (chain : List RuleId) → LeadsTo book names barred held asked chain → Within claim (weigh book chain) → ⊥
  refuted chain h low =
      refuted_from chain held no_cost (record { set = held; cost = no_cost }) (certificate.start (within_less claim no_cost (weigh book chain) (no_cost_at_most (weigh book chain)) low))
      (at_most_itself no_cost) (follows_itself book names barred asked held) h.enabled h.ends (subst (Within claim) (sym (total_from_none book chain)) low)

pub bounded : (book : List Rule) (names : PropSet) (barred : List RuleId) (held asked : PropSet) (least : Cost) (table : List TableRow)
    → IsCertificate book names barred held asked (Least least) table → (chain : List RuleId) → LeadsTo book names barred held asked chain → IsAtMost least (weigh book chain)
bounded book names barred held asked least table certificate chain h = elim (at_most_or_below least (weigh book chain)) [
  | inl k ↦ k
  | inr k ↦ absurd (refuted book names barred held asked (Least least) table certificate chain h k)
]
