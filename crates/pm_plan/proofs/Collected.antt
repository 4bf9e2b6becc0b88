-- The moves of the useful rules, collected in order.
use Rattle.std.proofs.Common.{◌≡◌, ℕ, ◌+◌, ◌<◌, Some, List, [], ◌∷◌, ◌++◌, inl, inr, refl, sym, ap, ◌∙◌, subst, arith, Contains, ◌↔◌, IsTrue}
use Rattle.std.specs.Prelude.{slice_get}
use Rattle.std.proofs.lemmas.Bool.{cases_lt}
use Rattle.std.proofs.lemmas.List.Elements.{Contains-append_left, Contains-push}
use Rattle.pm_props.specs.declared.property.PropId.{PropId}
use Rattle.pm_props.specs.declared.set.PropSet.{PropSet}
use Rattle.pm_props.specs.declared.kind.RuleId.{RuleId}
use Rattle.pm_props.specs.Sets.{has}
use Rattle.pm_rules.specs.declared.rule.Rule.{Rule}
use Rattle.pm_rules.specs.Rules.{rule_at}
use Rattle.pm_rules.specs.Chains.{Needed, IsUseful}
use Rattle.pm_rules.specs.Useful.{FindsOne}
use Rattle.pm_rules.proofs.NeededNames.{useful_exactly}
use Rattle.pm_plan.specs.declared.moves.Move.{Move}
use Rattle.pm_plan.specs.Moves.{move_of, IsMove}
use Rattle.pm_plan.proofs.Options.{same_some}

-- the useful ones of the first n rules have their moves in the list
abbrev pub FirstAreIn : List Rule → PropSet → List RuleId → PropSet → ℕ → List Move → Type 0
FirstAreIn book names barred asked n moves = (id : RuleId) (rule : Rule) → id.0 < n → rule_at book id ≡ Some rule → IsUseful book names barred asked id rule → Contains moves (move_of id rule)

module _ (book : List Rule) (names : PropSet) (barred : List RuleId) (asked needed : PropSet) (exact : (p : PropId) → IsTrue (has needed p) ↔ Needed book names barred asked p) where
  useful_here : (i : ℕ) (item rule : Rule) (id : RuleId) → slice_get book i ≡ Some item → id.0 ≡ i → rule_at book id ≡ Some rule → item ≡ rule
  useful_here i item rule id e same f = same_some item rule (sym e ∙ ap (slice_get book) (sym same) ∙ f)

  pub is_move : (i : ℕ) (item : Rule) → slice_get book i ≡ Some item → FindsOne names barred needed (record { 0 = i }) item
      → IsMove book names barred asked (move_of (record { 0 = i }) item)
  is_move i item e finds = record { rule = item; there = e; useful = (useful_exactly book names barred asked needed (record { 0 = i }) item exact).0 finds; same = refl }

  pub first_push : (i : ℕ) (item : Rule) (moves : List Move) → slice_get book i ≡ Some item → FirstAreIn book names barred asked i moves
      → FirstAreIn book names barred asked (i + 1) (moves ++ move_of (record { 0 = i }) item ∷ [])
  first_push i item moves e h = λ id rule low f useful. elim (cases_lt id.0 i) [
    | inl l ↦ Contains-append_left moves (move_of (record { 0 = i }) item ∷ []) (move_of id rule) (h id rule l f useful)
    | inr l ↦
        let same : id.0 ≡ i = omega arith in
        subst (λ (r : Rule). Contains (moves ++ move_of (record { 0 = i }) item ∷ []) (move_of id r)) (useful_here i item rule id e same f)
        (subst (λ (n : ℕ). Contains (moves ++ move_of (record { 0 = i }) item ∷ []) (move_of (record { 0 = n }) item)) (sym same) (Contains-push moves (move_of (record { 0 = i }) item)))
  ]

  pub first_same : (i : ℕ) (item : Rule) (moves : List Move) → slice_get book i ≡ Some item → (FindsOne names barred needed (record { 0 = i }) item → ⊥)
      → FirstAreIn book names barred asked i moves → FirstAreIn book names barred asked (i + 1) moves
  first_same i item moves e not h = λ id rule low f useful. elim (cases_lt id.0 i) [
    | inl l ↦ h id rule l f useful
    | inr l ↦
        let same : id.0 ≡ i = omega arith in
        absurd (not (subst (λ (r : Rule). FindsOne names barred needed (record { 0 = i }) r) (sym (useful_here i item rule id e same f))
        (subst (λ (n : ℕ). FindsOne names barred needed (record { 0 = n }) rule) same ((useful_exactly book names barred asked needed id rule exact).1 useful))))
  ]
