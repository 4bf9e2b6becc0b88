-- The first names of the properties of a set, in the order of their numbers, spell that set.
use Rattle.std.proofs.Common.{◌≡◌, ℕ, ◌+◌, ◌<◌, ◌^◌, Bool, true, false, ◌&&◌, ◌||◌, eqb, ltb, List, [], ◌∷◌, length, map, filter, refl, sym, ap, ap₂, ◌∙◌, arith, lit<, inl, inr}
use Rattle.std.specs.List.{range_with_len}
use Rattle.std.proofs.lemmas.Bool.{cases_Bool, cases_lt, and_from, and_left, and_right, or_cases, or_from, or_right, eqb-true, eqb-false, lt-ltb, le-ltb, both_ways, false_from_ne_true}
use Rattle.pm_props.specs.declared.property.PropId.{PropId}
use Rattle.pm_props.specs.declared.set.PropSet.{PropSet}
use Rattle.pm_props.specs.Properties.{count, every_property, first_name, number}
use Rattle.pm_props.specs.Sets.{has, only, union, members}
use Rattle.pm_props.proofs.Members.{has-empty, has-only, has-union, number_below, only_below, union_below, same_members}
use Rattle.pm_props.proofs.Numbers.{number_is}
use Rattle.pm_rules.specs.declared.rule.Rule.{Rule}
use Rattle.pm_rules.specs.Rules.{conditions}
use Rattle.pm_rules.specs.Books.{IsNamed, IsRule}
use Rattle.pm_books.specs.Reading.{Conditions, with_condition, no_conditions}
use Rattle.pm_books.specs.Grammar.{AddNames, AreNames, AddConditions}
use Rattle.pm_books.specs.Writing.{condition_of_rule}

-- s has those properties of the set whose numbers are below k
abbrev UpTo : ℕ → PropSet → PropSet → Type 0
UpTo k s set = (q : PropId) → has s q ≡ (has set q && ltb (number q) k)

or_false : (b : Bool) → (b || false) ≡ b
or_false true = refl
or_false false = refl

and_true : (b : Bool) → (b && true) ≡ b
and_true true = refl
and_true false = refl

-- only the number k is below the next one and not below k
below_next : (n k : ℕ) → (k ≡ n → ⊥) → ltb n k ≡ ltb n (k + 1)
below_next n k other = elim (cases_lt n k) [
  | inl h ↦ lt-ltb n k h ∙ sym (lt-ltb n (k + 1) (omega arith))
  | inr h ↦ le-ltb n k h ∙ sym (le-ltb n (k + 1) (omega arith))
]

others : (k : ℕ) (p q : PropId) (s set : PropSet) → number p ≡ k → eqb (number p) (number q) ≡ false → UpTo k s set → has s q ≡ (has set q && ltb (number q) (k + 1))
others k p q s set at e up =
    let other : k ≡ number q → ⊥ = λ h. eqb-false (number p) (number q) e (at ∙ h) in
    up q ∙ ap (λ b. has set q && b) (below_next (number q) k other)

up_in : (k : ℕ) (p : PropId) (s set : PropSet) → number p ≡ k → has set p ≡ true → UpTo k s set → UpTo (k + 1) (union s (only p)) set
up_in k p s set at there up = λ q. has-union s (only p) q ∙ (elim (cases_Bool (eqb (number p) (number q))) [
  | inl e ↦ (
      let same : p ≡ q = number_is p q (eqb-true (number p) (number q) e) in
      let below : number q < k + 1 = omega (arith, at, ap number same) in
      or_right (has s q) (has (only p) q) (has-only p q ∙ e) ∙ sym (and_from (has set q) (ltb (number q) (k + 1)) (ap (λ r. has set r) (sym same) ∙ there) (lt-ltb (number q) (k + 1) below))
      )
  | inr e ↦ ap (λ b. has s q || b) (has-only p q ∙ e) ∙ or_false (has s q) ∙ others k p q s set at e up
])

up_out : (k : ℕ) (p : PropId) (s set : PropSet) → number p ≡ k → has set p ≡ false → UpTo k s set → UpTo (k + 1) s set
up_out k p s set at none up = λ q. elim (cases_Bool (eqb (number p) (number q))) [
  | inl e ↦ (
      let absent : has set q ≡ false = ap (λ r. has set r) (sym (number_is p q (eqb-true (number p) (number q) e))) ∙ none in
      up q ∙ and_left (has set q) (ltb (number q) k) absent ∙ sym (and_left (has set q) (ltb (number q) (k + 1)) absent)
      )
  | inr e ↦ others k p q s set at e up
]

-- the property of number k itself is not yet there
not_yet : (k : ℕ) (p : PropId) (s set : PropSet) → number p ≡ k → UpTo k s set → has s p ≡ false
not_yet k p s set at up = up p ∙ and_right (has set p) (ltb (number p) k) (le-ltb (number p) k (omega arith))

up_none : (set : PropSet) → UpTo 0 0 set
up_none set = λ q. has-empty q ∙ sym (and_right (has set q) (ltb (number q) 0) (le-ltb (number q) 0 (omega arith)))

up_all : (k : ℕ) (s set : PropSet) → k ≡ count → s < 2 ^ count → set < 2 ^ count → UpTo k s set → s ≡ set
up_all k s set at below within up = same_members s set below within (λ q.
    let less : number q < k = omega (arith, number_below q) in
    up q ∙ ap (λ b. has set q && b) (lt-ltb (number q) k less) ∙ and_true (has set q))

-- ---- names
names_from_number : (ps : List PropId) (k : ℕ) (s set : PropSet) → map number ps ≡ range_with_len k (length ps) → k + length ps ≡ count → s < 2 ^ count → set < 2 ^ count → UpTo k s set
    → AddNames (map first_name (filter (has set) ps)) s set
names_from_number [] k s set numbered enough below within up = up_all k s set (omega arith) below within up
names_from_number (p ∷ ps) k s set numbered enough below within up =
    let at : number p ≡ k = cc in
    let tail : map number ps ≡ range_with_len (k + 1) (length ps) = cc in
    elim (cases_Bool (has set p)) [
      | inl h ↦ rw h (
        p,
        inl refl,
        not_yet k p s set at up,
        names_from_number ps (k + 1) (union s (only p)) set tail (omega arith) (union_below s (only p) below (only_below p)) within (up_in k p s set at h up),
      )
      | inr h ↦ rw h (names_from_number ps (k + 1) s set tail (omega arith) below within (up_out k p s set at h up))
    ]

some_names : (names : List (List ℕ)) (set : PropSet) → AddNames names 0 set → 0 < set → 0 < length names
some_names [] set added some = absurd (let none : 0 ≡ set = added in omega arith)
some_names (n ∷ names) set added some = omega arith

pub names_back : (set : PropSet) → IsNamed set → AreNames (map first_name (members set)) set
unfolding members
names_back set is =
    let added : AddNames (map first_name (filter (has set) every_property)) 0 set = names_from_number every_property 0 0 set refl refl (lit< tt) is.below (up_none set) in
    (some_names (map first_name (filter (has set) every_property)) set added is.some, added)

-- ---- conditions
conditions_from_number : (rule : Rule) → IsRule rule → (ps : List PropId) (k : ℕ) (found : Conditions) → map number ps ≡ range_with_len k (length ps) → k + length ps ≡ count
    → found.must < 2 ^ count → found.must_not < 2 ^ count → UpTo k found.must rule.must → UpTo k found.must_not rule.must_not
    → AddConditions (map (condition_of_rule rule) (filter (has (conditions rule)) ps)) found (record { must = rule.must; must_not = rule.must_not })
conditions_from_number rule is [] k found numbered enough below below_not up up_not =
    ap₂ (λ a b. record { must = a; must_not = b }) (up_all k found.must rule.must (omega arith) below is.must_below up) (up_all k found.must_not rule.must_not (omega arith) below_not is.must_not_below up_not)
conditions_from_number rule is (p ∷ ps) k found numbered enough below below_not up up_not =
    let at : number p ≡ k = cc in
    let tail : map number ps ≡ range_with_len (k + 1) (length ps) = cc in
    elim (cases_Bool (has (conditions rule) p)) [
      | inl h ↦ (
          let new : has (union found.must found.must_not) p ≡ false = has-union found.must found.must_not p ∙ or_from (has found.must p) (has found.must_not p) (not_yet k p found.must rule.must at up) (not_yet k p found.must_not rule.must_not at up_not) in
          let more : AddConditions (map (condition_of_rule rule) (filter (has (conditions rule)) ps)) (with_condition found (has rule.must_not p) p) (record { must = rule.must; must_not = rule.must_not }) =
          (elim (cases_Bool (has rule.must_not p)) [
            | inl n ↦ (
                let absent : has rule.must p ≡ false = false_from_ne_true (has rule.must p) (λ m. both_ways (has rule.must_not p) (is.apart p m) n) in
                rw n (conditions_from_number rule is ps (k + 1) (with_condition found true p) tail (omega arith) below (union_below found.must_not (only p) below_not (only_below p))
                (up_out k p found.must rule.must at absent up) (up_in k p found.must_not rule.must_not at n up_not))
                )
            | inr n ↦ (
                let present : has rule.must p ≡ true = (elim (or_cases (has rule.must p) (has rule.must_not p) (sym (has-union rule.must rule.must_not p) ∙ h)) [
                  | inl m ↦ m
                  | inr m ↦ absurd (both_ways (has rule.must_not p) n m)
                ]) in
                rw n (conditions_from_number rule is ps (k + 1) (with_condition found false p) tail (omega arith) (union_below found.must (only p) below (only_below p)) below_not
                (up_in k p found.must rule.must at present up) (up_out k p found.must_not rule.must_not at n up_not))
                )
          ]) in
          rw h (p, inl refl, is.flags p h, new, more)
          )
      | inr h ↦ (
          let absent : has rule.must p ≡ false = false_from_ne_true (has rule.must p) (λ m. both_ways (has (conditions rule) p) h (has-union rule.must rule.must_not p ∙ ap (λ b. b || has rule.must_not p) m)) in
          let absent_not : has rule.must_not p ≡ false = false_from_ne_true (has rule.must_not p) (λ m. both_ways (has (conditions rule) p) h (has-union rule.must rule.must_not p ∙ or_right (has rule.must p) (has rule.must_not p) m)) in
          rw h (conditions_from_number rule is ps (k + 1) found tail (omega arith) below below_not (up_out k p found.must rule.must at absent up) (up_out k p found.must_not rule.must_not at absent_not up_not))
          )
    ]

pub conditions_back : (rule : Rule) → IsRule rule → AddConditions (map (condition_of_rule rule) (members (conditions rule))) no_conditions (record { must = rule.must; must_not = rule.must_not })
unfolding members
conditions_back rule is = conditions_from_number rule is every_property 0 no_conditions refl refl (lit< tt) (lit< tt) (up_none rule.must) (up_none rule.must_not)
