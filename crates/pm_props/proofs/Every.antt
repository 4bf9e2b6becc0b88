-- Every property stands in the list of all, so a test of that list is a test of all properties; sets made of lists.
use Rattle.std.proofs.Common.{◌≡◌, zero, suc, true≢false, ℕ, Bool, true, false, not, ◌&&◌, ◌||◌, Some, List, [], ◌∷◌, eqb, fold, filter, refl, subst, sym, ap, ◌∙◌, inl, inr, ◌↔◌, IsTrue}
use Rattle.std.specs.Prelude.{slice_get}
use Rattle.std.specs.List.{list_all, list_any}
use Rattle.std.specs.Option.{is_some}
use Rattle.std.proofs.lemmas.Bool.{cases_Bool, and_parts, and_cases, not-true, not-false, eqb-true, eq-eqb, false_from_ne_true, both_ways}
use Rattle.pm_props.specs.declared.property.PropId.{PropId}
use Rattle.pm_props.specs.Properties.{number, every_property}
use Rattle.pm_props.specs.Sets.{has, only, union, set_of, IsSubset}
use Rattle.pm_vector.proofs.Filters.{among_filter, any_from, any_to, filter_among}
use Rattle.pm_vector.proofs.Lists.{Among, here, there}
use Rattle.pm_props.proofs.Members.{has-empty, has-only, has-union}
use Rattle.pm_props.proofs.Numbers.{number_is, property_at-number}

pub among_every : (p : PropId) → Among p every_property
among_every p = slice_among every_property (number p) (property_at-number p)
  where
    some_same : {X : Type 0} {x y : X} → Some x ≡ Some y → x ≡ y
    some_same e = cc

    slice_among : {X : Type 0} (xs : List X) (k : ℕ) {x : X} → slice_get xs k ≡ Some x → Among x xs
    slice_among [] k h = absurd (true≢false (sym (ap is_some h)))
    slice_among (y ∷ xs) zero h = subst (λ z. Among z (y ∷ xs)) (some_same h) here
    slice_among (y ∷ xs) (suc k) h = there (slice_among xs k h)

-- ---- a test of the list is a test of all properties
pub all_properties : (test : PropId → Bool) → list_all test every_property ≡ true → (p : PropId) → test p ≡ true
all_properties test h p = passes every_property h (among_every p)
  where
    passes : (xs : List PropId) → list_all test xs ≡ true → {x : PropId} → Among x xs → test x ≡ true
    passes [] h i = elim i [ ]
    passes (y ∷ xs) h here = (and_parts (test y) (list_all test xs) h).0
    passes (y ∷ xs) h (there i) = passes xs (and_parts (test y) (list_all test xs) h).1 i

pub all_pass : (test : PropId → Bool) → ((p : PropId) → test p ≡ true) → list_all test every_property ≡ true
all_pass test h = passes every_property
  where
    passes : (xs : List PropId) → list_all test xs ≡ true
    passes [] = refl
    passes (y ∷ xs) = rw (h y, passes xs) refl

pub any_property : (test : PropId → Bool) → IsTrue (list_any test every_property) ↔ ((p : PropId) × (test p ≡ true))
any_property test = (
  (λ e. let found = any_to test every_property e in (found.0, found.2)),
  (λ h. any_from test (among_every h.0) h.1),
)

pub no_property : (test : PropId → Bool) → list_any test every_property ≡ false → (p : PropId) → test p ≡ false
no_property test e p = false_from_ne_true (test p) (λ h. both_ways (list_any test every_property) e ((any_property test).1 (p, h)))

abbrev not_in : ℕ → PropId → Bool
not_in t p = not (has t p)

-- where s has more than t there is a property that only s has
pub one_missing : (s t : ℕ) → (IsSubset s t → ⊥) → (p : PropId) × IsTrue (has s p) × (has t p ≡ false)
one_missing s t not = elim (cases_Bool (list_any (λ p. has s p && not_in t p) every_property)) [
  | inl e ↦ let found = (any_property (λ p. has s p && not_in t p)).0 e in let both = and_parts (has s found.0) (not_in t found.0) found.1 in
      (found.0, both.0, not-true (has t found.0) both.1)
  | inr e ↦ absurd (not (λ p h. not-false (has t p) (elim (and_cases (has s p) (not_in t p) (no_property (λ q. has s q && not_in t q) e p)) [
    | inl k ↦ absurd (both_ways (has s p) k h)
    | inr k ↦ k
  ])))
]

-- ---- sets of lists
or-false : (b : Bool) → (b || false) ≡ b
or-false true = refl
or-false false = refl

or_assoc : (a b c : Bool) → ((a || b) || c) ≡ (a || (b || c))
or_assoc true b c = refl
or_assoc false b c = refl

has-set_from : (s : ℕ) (ps : List PropId) (p : PropId) → has (fold (λ t q. union t (only q)) s ps) p ≡ (has s p || list_any (λ q. eqb (number q) (number p)) ps)
has-set_from s [] p = sym (or-false (has s p))
has-set_from s (q ∷ ps) p = has-set_from (union s (only q)) ps p ∙ ap (λ b. b || list_any (λ r. eqb (number r) (number p)) ps) (has-union s (only q) p ∙ ap (λ b. has s p || b) (has-only q p))
    ∙ or_assoc (has s p) (eqb (number q) (number p)) (list_any (λ r. eqb (number r) (number p)) ps)

pub has-set_of : (ps : List PropId) (p : PropId) → has (set_of ps) p ≡ list_any (λ q. eqb (number q) (number p)) ps
has-set_of ps p = has-set_from 0 ps p ∙ ap (λ b. b || list_any (λ q. eqb (number q) (number p)) ps) (has-empty p)

-- the set of all that pass a test has exactly these
pub has-set_of_filter : (test : PropId → Bool) (p : PropId) → has (set_of (filter test every_property)) p ≡ test p
has-set_of_filter test p = has-set_of (filter test every_property) p ∙ (elim (cases_Bool (test p)) [
  | inl t ↦ any_from (λ q. eqb (number q) (number p)) (among_filter test (among_every p) t) (eq-eqb (number p) (number p) refl) ∙ sym t
  | inr t ↦ false_from_ne_true (list_any (λ q. eqb (number q) (number p)) (filter test every_property)) (λ h.
      let found = any_to (λ q. eqb (number q) (number p)) (filter test every_property) h in
      both_ways (test p) t (ap test (sym (number_is found.0 p (eqb-true (number found.0) (number p) found.2))) ∙ (filter_among test every_property found.1).1)) ∙ sym t
])
