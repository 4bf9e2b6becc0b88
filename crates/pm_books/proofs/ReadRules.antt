-- What is read is a rule of a book.
use Rattle.std.proofs.Common.{◌≡◌, ℕ, zero, suc, ◌^◌, ◌<◌, Bool, true, false, cond, eqb, IsTrue, Option, Some, None, Result, Ok, Err, List, [], ◌∷◌, inl, inr, refl, sym, ap, ◌∙◌, subst, arith, lit<}
use Rattle.std.proofs.lemmas.Bool.{cases_Bool, or_parts, both_ways, eqb-true}
use Rattle.pm_props.specs.declared.property.PropId.{PropId}
use Rattle.pm_props.specs.declared.property.ValueKind.{ValueKind}
use Rattle.pm_props.specs.declared.property.ValueKind.TheVariants as value
use Rattle.pm_props.specs.declared.set.PropSet.{PropSet}
use Rattle.pm_props.specs.Properties.{count, number, value_kind}
use Rattle.pm_props.specs.Sets.{has, only, union}
use Rattle.pm_props.specs.Names.{property_named}
use Rattle.pm_props.proofs.Members.{has-empty, has-only, has-union, only_below, union_below}
use Rattle.pm_props.proofs.Numbers.{number_is}
use Rattle.pm_books.specs.declared.fail.BookFail.{BookFail}
use Rattle.pm_books.specs.declared.fail.BookFail.TheVariants.{Syntax}
use Rattle.pm_rules.specs.Words.{is_word}
use Rattle.pm_rules.specs.Books.{IsNamed}
use Rattle.pm_books.specs.Tokens.{Token}
use Rattle.pm_books.specs.Reading.{◌>>=◌, token_where, new_name, name_of, is_comma, names_from, is_truth, Conditions, with_condition, condition_of, is_not, conditions_from, no_conditions}
use Rattle.pm_books.specs.Reading.Due.{condition, name, comma}
use Rattle.pm_books.specs.Reading.{Due}
use Rattle.pm_rules.proofs.Followed.{in_union_left, in_union_right, in_union_cases}

-- ---- steps that were read
pub bind_ok : {A B : Type 0} (r : Result A BookFail) (f : A → Result B BookFail) (y : B) → (r >>= f) ≡ Ok y → (x : A) × (r ≡ Ok x) × (f x ≡ Ok y)
bind_ok (Ok x) f y h = (x, refl, h)
bind_ok (Err e) f y h = cc

pub ok_same : {A : Type 0} (x y : A) → ◌≡◌ {A = Result A BookFail} (Ok x) (Ok y) → x ≡ y
ok_same x y e = cc

-- a test that was passed
pub guard_ok : {A : Type 0} (b : Bool) (r : Result A BookFail) (e : BookFail) (y : A) → cond b r (Err e) ≡ Ok y → (b ≡ true) × (r ≡ Ok y)
guard_ok true r e y h = (refl, h)
guard_ok false r e y h = cc

-- a test that was not met
pub unless_ok : {A : Type 0} (b : Bool) (r : Result A BookFail) (e : BookFail) (y : A) → cond b (Err e) r ≡ Ok y → (b ≡ false) × (r ≡ Ok y)
unless_ok true r e y h = cc
unless_ok false r e y h = (refl, h)

pub token_where_ok : (test : List ℕ → Bool) (end : ℕ) (ts : List Token) (x : Token × List Token) → token_where test end ts ≡ Ok x → IsTrue (test x.0.text)
unfolding token_where
token_where_ok test end [] x h = cc
token_where_ok test end (t ∷ ts) x h =
    let parts = guard_ok (test t.text) (Ok (t, ts)) (Syntax t.place) x h in
    ap (λ (y : Token × List Token). test y.0.text) (sym (ok_same (t, ts) x parts.1)) ∙ parts.0

-- ---- names
new_name_ok : (place : ℕ) (set : PropSet) (found : Option PropId) (p : PropId) → new_name place set found ≡ Ok p → (has set p ≡ false) × (found ≡ Some p)
new_name_ok place set None p h = cc
new_name_ok place set (Some q) p h =
    let parts = unless_ok (has set q) (Ok q) (Syntax place) p h in
    let same = ok_same q p parts.1 in (ap (has set) (sym same) ∙ parts.0, ap (λ r. Some r) same)

pub name_of_ok : (set : PropSet) (t : Token) (p : PropId) → name_of set t ≡ Ok p → (has set p ≡ false) × (property_named t.text ≡ Some p)
unfolding name_of
name_of_ok set t p h = new_name_ok t.place set (property_named t.text) p (guard_ok (is_word t.text) (new_name t.place set (property_named t.text)) (Syntax t.place) p h).1

positive_from_has : (s : ℕ) (p : PropId) → has s p ≡ true → 0 < s
positive_from_has zero p h = absurd (both_ways (has 0 p) (has-empty p) h)
positive_from_has (suc n) p h = omega arith

pub has-only_itself : (p : PropId) → has (only p) p ≡ true
has-only_itself p = has-only p p ∙ (let e : eqb (number p) (number p) ≡ true = grind arith in e)

only_one : (p q : PropId) → has (only p) q ≡ true → p ≡ q
only_one p q h = number_is p q (eqb-true (number p) (number q) (sym (has-only p q) ∙ h))

pub names_are_named : (due : Bool) (set : PropSet) (end : ℕ) (ts : List Token) (x : PropSet × List Token) → names_from due set end ts ≡ Ok x → set < 2 ^ count → (due ≡ false → 0 < set) → IsNamed x.0
unfolding names_from
names_are_named true set end [] x h below some = cc
names_are_named true set end (t ∷ ts) x h below some =
    let step = bind_ok (name_of set t) (λ p. names_from false (union set (only p)) end ts) x h in
    names_are_named false (union set (only step.0)) end ts x step.2 (union_below set (only step.0) below (only_below step.0))
    (λ _. positive_from_has (union set (only step.0)) step.0 (in_union_right set (only step.0) step.0 (has-only_itself step.0)))
names_are_named false set end [] x h below some =
    let same = ok_same (set, []) x h in
    subst (λ (y : PropSet × List Token). IsNamed y.0) same (record { some = some refl; below = below })
names_are_named false set end (t ∷ ts) x h below some = elim (cases_Bool (is_comma t)) [
  | inl e ↦ names_are_named true set end ts x (rw e at h) below (λ e'. cc)
  | inr e ↦ (let h' : ◌≡◌ {A = Result (PropSet × List Token) BookFail} (Ok (set, t ∷ ts)) (Ok x) = (rw e at h) in
      subst (λ (y : PropSet × List Token). IsNamed y.0) (ok_same (set, t ∷ ts) x h') (record { some = some refl; below = below }))
]

-- ---- conditions
pub record AreConditions (found : Conditions) : Type 0 where
  pub flags : (p : PropId) → IsTrue (has (union found.must found.must_not) p) → value_kind p ≡ value.Bool
  pub apart : (p : PropId) → IsTrue (has found.must p) → has found.must_not p ≡ false
  pub must_below : found.must < 2 ^ count
  pub must_not_below : found.must_not < 2 ^ count

truth_is_Bool : (k : ValueKind) → is_truth k ≡ true → k ≡ value.Bool
truth_is_Bool value.Bool h = refl
truth_is_Bool value.Mat h = cc
truth_is_Bool value.Sets h = cc
truth_is_Bool value.Int h = cc
truth_is_Bool value.Number h = cc
truth_is_Bool value.Edges h = cc
truth_is_Bool value.Lattice h = cc
truth_is_Bool value.Counts h = cc

pub condition_of_ok : (found : Conditions) (t : Token) (p : PropId) → condition_of found t ≡ Ok p → (has (union found.must found.must_not) p ≡ false) × (value_kind p ≡ value.Bool) × (property_named t.text ≡ Some p)
unfolding condition_of
condition_of_ok found t p h =
    let step = bind_ok (name_of (union found.must found.must_not) t) (λ q. cond (is_truth (value_kind q)) (Ok q) (Err (Syntax t.place))) p h in
    let named = name_of_ok (union found.must found.must_not) t step.0 step.1 in
    let parts = guard_ok (is_truth (value_kind step.0)) (Ok step.0) (Syntax t.place) p step.2 in
    let same = ok_same step.0 p parts.1 in
    (ap (has (union found.must found.must_not)) (sym same) ∙ named.0, ap value_kind (sym same) ∙ truth_is_Bool (value_kind step.0) parts.0, named.1 ∙ ap (λ q. Some q) same)

not_in_either : (s t : PropSet) (p : PropId) → has (union s t) p ≡ false → (has s p ≡ false) × (has t p ≡ false)
not_in_either s t p h = or_parts (has s p) (has t p) (sym (has-union s t p) ∙ h)

with_condition_AreConditions : (found : Conditions) (negated : Bool) (p : PropId) → AreConditions found → has (union found.must found.must_not) p ≡ false → value_kind p ≡ value.Bool
    → AreConditions (with_condition found negated p)
with_condition_AreConditions found false p good new flag = record {
  flags = λ q h. elim (in_union_cases (union found.must (only p)) found.must_not q h) [
    | inl k ↦ elim (in_union_cases found.must (only p) q k) [
      | inl l ↦ good.flags q (in_union_left found.must found.must_not q l)
      | inr l ↦ subst (λ r. value_kind r ≡ value.Bool) (only_one p q l) flag
    ]
    | inr k ↦ good.flags q (in_union_right found.must found.must_not q k)
  ];
  apart = λ q h. elim (in_union_cases found.must (only p) q h) [
    | inl l ↦ good.apart q l
    | inr l ↦ subst (λ r. has found.must_not r ≡ false) (only_one p q l) (not_in_either found.must found.must_not p new).1
  ];
  must_below = union_below found.must (only p) good.must_below (only_below p);
  must_not_below = good.must_not_below;
}
with_condition_AreConditions found true p good new flag = record {
  flags = λ q h. elim (in_union_cases found.must (union found.must_not (only p)) q h) [
    | inl k ↦ good.flags q (in_union_left found.must found.must_not q k)
    | inr k ↦ elim (in_union_cases found.must_not (only p) q k) [
      | inl l ↦ good.flags q (in_union_right found.must found.must_not q l)
      | inr l ↦ subst (λ r. value_kind r ≡ value.Bool) (only_one p q l) flag
    ]
  ];
  apart = λ q h. has-union found.must_not (only p) q ∙ (rw (good.apart q h) (elim (cases_Bool (has (only p) q)) [
    | inl l ↦ absurd (both_ways (has found.must p) (not_in_either found.must found.must_not p new).0 (subst (λ r. has found.must r ≡ true) (sym (only_one p q l)) h))
    | inr l ↦ l
  ]));
  must_below = good.must_below;
  must_not_below = union_below found.must_not (only p) good.must_not_below (only_below p);
}

pub conditions_are : (due : Due) (found : Conditions) (end : ℕ) (ts : List Token) (x : Conditions × List Token) → conditions_from due found end ts ≡ Ok x → AreConditions found → AreConditions x.0
unfolding conditions_from
conditions_are condition found end [] x h good = cc
conditions_are condition found end (t ∷ ts) x h good = elim (cases_Bool (is_not t)) [
  | inl e ↦ conditions_are name found end ts x (rw e at h) good
  | inr e ↦ (let h' : (condition_of found t >>= λ p. conditions_from comma (with_condition found false p) end ts) ≡ Ok x = (rw e at h) in
      let step = bind_ok (condition_of found t) (λ p. conditions_from comma (with_condition found false p) end ts) x h' in
      let named = condition_of_ok found t step.0 step.1 in
      conditions_are comma (with_condition found false step.0) end ts x step.2 (with_condition_AreConditions found false step.0 good named.0 named.1))
]
conditions_are name found end [] x h good = cc
conditions_are name found end (t ∷ ts) x h good =
    let step = bind_ok (condition_of found t) (λ p. conditions_from comma (with_condition found true p) end ts) x h in
    let named = condition_of_ok found t step.0 step.1 in
    conditions_are comma (with_condition found true step.0) end ts x step.2 (with_condition_AreConditions found true step.0 good named.0 named.1)
conditions_are comma found end [] x h good = subst (λ (y : Conditions × List Token). AreConditions y.0) (ok_same (found, []) x h) good
conditions_are comma found end (t ∷ ts) x h good = elim (cases_Bool (is_comma t)) [
  | inl e ↦ conditions_are condition found end ts x (rw e at h) good
  | inr e ↦ (let h' : ◌≡◌ {A = Result (Conditions × List Token) BookFail} (Ok (found, t ∷ ts)) (Ok x) = (rw e at h) in
      subst (λ (y : Conditions × List Token). AreConditions y.0) (ok_same (found, t ∷ ts) x h') good)
]

pub none_AreConditions : AreConditions no_conditions
none_AreConditions = record {
  flags = λ p h. absurd (both_ways (has (union 0 0) p) (has-union 0 0 p ∙ (rw (has-empty p) refl)) h);
  apart = λ p h. has-empty p;
  must_below = lit< tt;
  must_not_below = lit< tt;
}
