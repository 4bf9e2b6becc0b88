-- A test of the properties of a set, one after another.
use Rattle.std.proofs.Common.{false, not, refl, subst, sym, true, Bool, eqb, inl, inr, ℕ, ◌&&◌, ◌∙◌, ◌≡◌}
use Rattle.std.specs.List.{list_any}
use Rattle.std.proofs.lemmas.Bool.{and_cases, and_parts, both_ways, eqb-true, false_from_ne_true, not-false}
use Rattle.pm_props.specs.Properties.{every_property, number}
use Rattle.pm_props.specs.Sets.{IsSubset, has}
use Rattle.pm_props.specs.declared.property.PropId.{PropId}
use Rattle.pm_props.proofs.Every.{any_property}
use Rattle.pm_props.proofs.Numbers.{number_is}

module _ (test : PropId → Bool) where
  -- those of the set that are not in the rest do not pass
  pub record Looked (set rest : ℕ) : Type 0 where
    pub within : IsSubset rest set
    pub passed : (p : PropId) → has set p ≡ true → has rest p ≡ false → test p ≡ false

  pub looked_all : (set : ℕ) → Looked set set
  looked_all set = record { within = λ p h. h; passed = λ p h k. absurd (both_ways (has set p) k h) }

  pub looked_more : (set rest next : ℕ) → Looked set rest → (p : PropId) → test p ≡ false
      → ((q : PropId) → has next q ≡ (has rest q && not (eqb (number p) (number q)))) → Looked set next
  looked_more set rest next l p fails members = record {
    within = λ q h. l.within q (left (has rest q) (not (eqb (number p) (number q))) (sym (members q) ∙ h));
    passed = λ q h k. elim (and_cases (has rest q) (not (eqb (number p) (number q))) (sym (members q) ∙ k)) [
      | inl gone ↦ l.passed q h gone
      | inr same ↦ subst (λ r. test r ≡ false) (number_is p q (eqb-true (number p) (number q) (not-false (eqb (number p) (number q)) same))) fails
    ];
  }
    where
      left : (a b : Bool) → (a && b) ≡ true → a ≡ true
      left true b h = refl
      left false b h = h

  -- none of the set passes
  pub looked_none : (set rest : ℕ) → Looked set rest → ((p : PropId) → has rest p ≡ false) → list_any (λ p. has set p && test p) every_property ≡ false
  looked_none set rest l none = false_from_ne_true (list_any (λ p. has set p && test p) every_property) (λ h.
      let found = (any_property (λ p. has set p && test p)).0 h in
      let both = and_parts (has set found.0) (test found.0) found.1 in
      both_ways (test found.0) (l.passed found.0 both.0 (none found.0)) both.1)

  -- one does
  pub looked_found : (set rest : ℕ) → Looked set rest → (p : PropId) → has rest p ≡ true → test p ≡ true → list_any (λ q. has set q && test q) every_property ≡ true
  looked_found set rest l p h passes = (any_property (λ q. has set q && test q)).1 (p, and_true (has set p) (test p) (l.within p h) passes)
    where
      and_true : (a b : Bool) → a ≡ true → b ≡ true → (a && b) ≡ true
      and_true true b h k = k
      and_true false b h k = h
