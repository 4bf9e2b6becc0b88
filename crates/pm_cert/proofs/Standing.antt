-- Rows that stand, and the table as a whole.
use Rattle.std.proofs.Common.{◌≡◌, ℕ, ◌+◌, ◌<◌, ◌≤◌, ◌↔◌, IsTrue, Some, List, length, inl, inr, sym, ap, ◌∙◌, subst, arith}
use Rattle.std.specs.Prelude.{slice_get}
use Rattle.std.proofs.lemmas.Option.{slice_get_within}
use Rattle.std.proofs.lemmas.Bool.{cases_lt}
use Rattle.pm_props.specs.declared.property.PropId.{PropId}
use Rattle.pm_props.specs.declared.set.PropSet.{PropSet}
use Rattle.pm_props.specs.declared.kind.RuleId.{RuleId}
use Rattle.pm_props.specs.Sets.{has, IsSubset}
use Rattle.pm_rules.specs.declared.rule.Rule.{Rule}
use Rattle.pm_rules.specs.declared.table.TableRow.{TableRow}
use Rattle.pm_rules.specs.declared.table.Claim.{Claim}
use Rattle.pm_rules.specs.Rules.{rule_at}
use Rattle.pm_rules.specs.Steps.{step_of}
use Rattle.pm_rules.specs.Chains.{Needed}
use Rattle.pm_rules.specs.Useful.{FindsOne}
use Rattle.pm_rules.specs.Certificates.{Within}
use Rattle.pm_rules.proofs.NeededNames.{useful_exactly}
use Rattle.pm_rules.proofs.Opens.{enabled_from_open, open_from_enabled}
use Rattle.pm_cert.specs.Claims.{GoesOn, StandsIn, UpTo}

-- the first n rules lead on from the first standing rows, none of which ends; the next row does not stand
pub record StandsSoFar (rules : List Rule) (names : PropSet) (barred : List RuleId) (asked needed : PropSet) (rows : List TableRow) (claim : Claim) (n standing : ℕ) : Type 0 where
  pub within : standing ≤ length rows
  pub ends : UpTo standing (λ row. Within claim row.cost → IsSubset asked row.set → ⊥) rows
  pub onward : (id : RuleId) (rule : Rule) → id.0 < n → rule_at rules id ≡ Some rule → FindsOne names barred needed id rule
      → UpTo standing (GoesOn rows claim (step_of rule) rule.weight) rows
  pub first : (row : TableRow) → slice_get rows standing ≡ Some row → StandsIn rules names barred asked rows claim row → ⊥

some_same : {X : Type 0} (x y : X) → Some x ≡ Some y → x ≡ y
some_same x y e = cc

-- one row more
pub up_to_more : (P : TableRow → Type 0) (rows : List TableRow) (i : ℕ) (item : TableRow) → slice_get rows i ≡ Some item → P item → UpTo i P rows → UpTo (i + 1) P rows
up_to_more P rows i item there here h = λ k row l e. elim (cases_lt k i) [
  | inl less ↦ h k row less e
  | inr more ↦
      let same : k ≡ i = omega arith in
      subst P (some_same item row (sym there ∙ ap (slice_get rows) (sym same) ∙ e)) here
]

fewer : (P : TableRow → Type 0) (rows : List TableRow) (n m : ℕ) → m ≤ n → UpTo n P rows → UpTo m P rows
fewer P rows n m le h = λ k row l e. h k row (omega arith) e

module _ (rules : List Rule) (names : PropSet) (barred : List RuleId) (asked needed : PropSet) (rows : List TableRow) (claim : Claim)
    (exact : (p : PropId) → IsTrue (has needed p) ↔ Needed rules names barred asked p) where
  -- a row that stands leads on by each rule that finds a needed name
  pub goes_on_from_stands : (row : TableRow) (id : RuleId) (rule : Rule) → rule_at rules id ≡ Some rule → FindsOne names barred needed id rule
      → StandsIn rules names barred asked rows claim row → GoesOn rows claim (step_of rule) rule.weight row
  goes_on_from_stands row id rule e finds h = record {
    onward = λ within opened. h.onward within id rule e ((useful_exactly rules names barred asked needed id rule exact).0 finds)
        (enabled_from_open names barred row.set id rule finds.in_use finds.allowed opened);
  }

  -- all rules were gone through
  pub stands_in_the_end : (n standing : ℕ) → length rules ≤ n → StandsSoFar rules names barred asked needed rows claim n standing
      → UpTo standing (StandsIn rules names barred asked rows claim) rows
  stands_in_the_end n standing all h = λ k row l e. record {
    onward = λ within id rule is useful enabled.
        (h.onward id rule (let w : id.0 < length rules = slice_get_within rules id.0 rule is in omega arith) is ((useful_exactly rules names barred asked needed id rule exact).1 useful) k row l e).onward within
        (open_from_enabled names barred row.set id rule enabled);
    ends = h.ends k row l e;
  }

  -- a rule that finds a needed name was gone through, and less rows may stand
  pub stands_more : (i standing less : ℕ) (item : Rule) → slice_get rules i ≡ Some item → less ≤ standing → FindsOne names barred needed (record { 0 = i }) item
      → UpTo less (GoesOn rows claim (step_of item) item.weight) rows
      → ((row : TableRow) → less < standing → slice_get rows less ≡ Some row → GoesOn rows claim (step_of item) item.weight row → ⊥)
      → StandsSoFar rules names barred asked needed rows claim i standing → StandsSoFar rules names barred asked needed rows claim (i + 1) less
  stands_more i standing less item there le finds here next h = record {
    within = let w = h.within in omega arith;
    ends = fewer (λ row. Within claim row.cost → IsSubset asked row.set → ⊥) rows standing less le h.ends;
    onward = λ id rule l e is. elim (cases_lt id.0 i) [
      | inl before ↦ fewer (GoesOn rows claim (step_of rule) rule.weight) rows standing less le (h.onward id rule before e is)
      | inr more ↦
          let same : id.0 ≡ i = omega arith in
          subst (λ (r : Rule). UpTo less (GoesOn rows claim (step_of r) r.weight) rows) (some_same item rule (sym there ∙ ap (slice_get rules) (sym same) ∙ e)) here
    ];
    first = λ row e stands. elim (cases_lt less standing) [
      | inl before ↦ next row before e (goes_on_from_stands row (record { 0 = i }) item there finds stands)
      | inr more ↦
          let same : less ≡ standing = omega arith in
          h.first row (ap (slice_get rows) (sym same) ∙ e) stands
    ];
  }

  -- a rule was left out that finds none
  pub stands_on : (i standing : ℕ) (item : Rule) → slice_get rules i ≡ Some item → (FindsOne names barred needed (record { 0 = i }) item → ⊥)
      → StandsSoFar rules names barred asked needed rows claim i standing → StandsSoFar rules names barred asked needed rows claim (i + 1) standing
  stands_on i standing item there not_so h = record {
    within = h.within;
    ends = h.ends;
    onward = λ id rule l e is. elim (cases_lt id.0 i) [
      | inl before ↦ h.onward id rule before e is
      | inr more ↦
          let same : id.0 ≡ i = omega arith in
          let is_it : rule ≡ item = some_same rule item (sym e ∙ ap (slice_get rules) same ∙ there) in
          absurd (not_so (subst (λ (r : Rule). FindsOne names barred needed (record { 0 = i }) r) is_it (subst (λ (n : ℕ). FindsOne names barred needed (record { 0 = n }) rule) same is)))
    ];
    first = h.first;
  }
