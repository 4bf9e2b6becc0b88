-- The names that are needed, and the rules that find one of them.
use Rattle.std.proofs.Common.{◌≡◌, ℕ, ◌+◌, ◌<◌, ◌≤◌, Bool, false, not, ◌&&◌, ◌↔◌, IsTrue, Some, List, inl, inr, sym, ap, ◌∙◌, subst, arith}
use Rattle.std.specs.Prelude.{slice_get}
use Rattle.std.proofs.lemmas.Bool.{cases_lt, and_parts, and_from, not-true, not_from_false, both_ways, false_from_ne_true, iff_false}
use Rattle.std.proofs.lemmas.Nat.{le_or_l}
use Rattle.pm_props.specs.declared.property.PropId.{PropId}
use Rattle.pm_props.specs.declared.set.PropSet.{PropSet}
use Rattle.pm_props.specs.declared.kind.RuleId.{RuleId}
use Rattle.pm_props.specs.Sets.{has, union, IsSubset}
use Rattle.pm_props.proofs.Members.{has-empty}
use Rattle.pm_props.proofs.Every.{one_missing}
use Rattle.pm_rules.specs.declared.rule.Rule.{Rule}
use Rattle.pm_rules.specs.Rules.{rule_at, inputs, is_barred, IsInUse}
use Rattle.pm_rules.specs.Chains.{Needed, IsUseful}
use Rattle.pm_rules.specs.Chains.Needed.{is_asked, is_read}
use Rattle.pm_rules.specs.Useful.{FindsOne, AllNeeded}
use Rattle.pm_rules.proofs.Followed.{in_union_left, in_union_right, in_union_cases}

-- ---- what the code tests
some_common : (s t inter : PropSet) → ((p : PropId) → has inter p ≡ (has s p && has t p)) → (((p : PropId) → has inter p ≡ false) → ⊥) → (p : PropId) × IsTrue (has s p) × IsTrue (has t p)
some_common s t inter is not =
    let found = one_missing inter 0 (λ h. not (λ p. false_from_ne_true (has inter p) (λ e. both_ways (has 0 p) (has-empty p) (h p e)))) in
    let both = and_parts (has s found.0) (has t found.0) (sym (is found.0) ∙ found.1) in
    (found.0, both.0, both.1)

-- what is tested last says whether the rule finds one of the set, where it is in use and not barred
pub finds_exactly : (names : PropSet) (barred : List RuleId) (set : PropSet) (id : RuleId) (rule : Rule) (inter : PropSet) (c : Bool) → IsInUse names rule → is_barred barred id ≡ false
    → ((p : PropId) → has inter p ≡ (has rule.kind.targets p && has set p)) → IsTrue c ↔ ((p : PropId) → has inter p ≡ false) → IsTrue (not c) ↔ FindsOne names barred set id rule
finds_exactly names barred set id rule inter c used allowed is_inter is_c = (
  (λ h. record { in_use = used; allowed = allowed; target = some_common rule.kind.targets set inter is_inter (iff_false is_c (not-true c h)) }),
  (λ h. not_from_false c (false_from_ne_true c (λ e.
      both_ways (has inter h.target.0) (is_c.0 e h.target.0) (is_inter h.target.0 ∙ and_from (has rule.kind.targets h.target.0) (has set h.target.0) h.target.1 h.target.2)))),
)

-- ---- one pass over the rules
-- what the first n rules read which find one of the set is in more
abbrev pub ReadIsIn : List Rule → PropSet → List RuleId → PropSet → ℕ → PropSet → Type 0
ReadIsIn rules names barred set n more = (id : RuleId) (rule : Rule) → id.0 < n → rule_at rules id ≡ Some rule → FindsOne names barred set id rule → IsSubset (inputs rule) more

some_same : {X : Type 0} (x y : X) → Some x ≡ Some y → x ≡ y
some_same x y e = cc

at_itself : (rules : List Rule) (id : RuleId) (i : ℕ) (item rule : Rule) → slice_get rules i ≡ Some item → id.0 ≡ i → rule_at rules id ≡ Some rule → item ≡ rule
at_itself rules id i item rule e k f = some_same item rule (sym e ∙ ap (slice_get rules) (sym k) ∙ f)

module _ (rules : List Rule) (names : PropSet) (barred : List RuleId) (set : PropSet) where
  pub read_more : (i : ℕ) (item : Rule) (more : PropSet) → slice_get rules i ≡ Some item → ReadIsIn rules names barred set i more → ReadIsIn rules names barred set (i + 1) (union more (inputs item))
  read_more i item more e h = λ id rule low f finds p k. elim (cases_lt id.0 i) [
    | inl l ↦ in_union_left more (inputs item) p (h id rule l f finds p k)
    | inr l ↦ in_union_right more (inputs item) p (subst (λ (r : Rule). IsTrue (has (inputs r) p)) (sym (at_itself rules id i item rule e (omega arith) f)) k)
  ]

  pub read_same : (i : ℕ) (item : Rule) (more : PropSet) → slice_get rules i ≡ Some item
      → (FindsOne names barred set (record { 0 = i }) item → IsSubset (inputs item) more)
      → ReadIsIn rules names barred set i more → ReadIsIn rules names barred set (i + 1) more
  read_same i item more e is_in h = λ id rule low f finds. elim (cases_lt id.0 i) [
    | inl l ↦ h id rule l f finds
    | inr l ↦
        let same : id.0 ≡ i = omega arith in
        let is_item : item ≡ rule = at_itself rules id i item rule e same f in
        subst (λ (r : Rule). IsSubset (inputs r) more) is_item (is_in (
        subst (λ (r : Rule). FindsOne names barred set (record { 0 = i }) r) (sym is_item)
        (subst (λ (n : ℕ). FindsOne names barred set (record { 0 = n }) rule) same finds)))
  ]

  pub needed_more : (i : ℕ) (item : Rule) (more asked : PropSet) → slice_get rules i ≡ Some item → FindsOne names barred set (record { 0 = i }) item
      → AllNeeded rules names barred asked set → AllNeeded rules names barred asked more → AllNeeded rules names barred asked (union more (inputs item))
  needed_more i item more asked e finds all_set all_more = λ p h. elim (in_union_cases more (inputs item) p h) [
    | inl k ↦ all_more p k
    | inr k ↦ is_read (record { 0 = i }) item finds.target.0 e finds.in_use finds.allowed finds.target.1 (all_set finds.target.0 finds.target.2) k
  ]

pub number_more : (set more added : PropSet) → set ≤ more → set ≤ union more added
unfolding union
number_more set more added h = omega (arith, le_or_l more added)

-- ---- the fixed point
-- a set that has the asked names, and what the rules read which find one of it, has all that is needed
pub needed_within : (rules : List Rule) (names : PropSet) (barred : List RuleId) (asked set : PropSet) → IsSubset asked set
    → ((id : RuleId) (rule : Rule) → rule_at rules id ≡ Some rule → FindsOne names barred set id rule → IsSubset (inputs rule) set)
    → (p : PropId) → Needed rules names barred asked p → IsTrue (has set p)
needed_within rules names barred asked set has_asked closed p (is_asked k) = has_asked p k
needed_within rules names barred asked set has_asked closed p (is_read id rule target e used allowed finds more k) =
    closed id rule e (record { in_use = used; allowed = allowed; target = (target, finds, needed_within rules names barred asked set has_asked closed target more) }) p k

-- of the needed names, those rules find one that are useful
pub useful_exactly : (book : List Rule) (names : PropSet) (barred : List RuleId) (asked set : PropSet) (id : RuleId) (rule : Rule)
    → ((p : PropId) → IsTrue (has set p) ↔ Needed book names barred asked p) → FindsOne names barred set id rule ↔ IsUseful book names barred asked id rule
useful_exactly book names barred asked set id rule exact = (
  (λ h. record { in_use = h.in_use; allowed = h.allowed; target = (h.target.0, h.target.1, (exact h.target.0).0 h.target.2) }),
  (λ h. record { in_use = h.in_use; allowed = h.allowed; target = (h.target.0, h.target.1, (exact h.target.0).1 h.target.2) }),
)
