-- The names of a list and the set of their properties.
use Rattle.std.proofs.Common.{◌≡◌, ◌∙◌, ◌++◌, ◌⊎◌, ℕ, zero, suc, Bool, true, false, Any, List, [], ◌∷◌, ap, arith, inl, inr, map, refl, subst, sym}
use Rattle.std.proofs.lemmas.Bool.{eqb-true}
use Rattle.pm_books.specs.Grammar.{AddConditions, AddNames, Condition}
use Rattle.pm_books.specs.Reading.{Conditions, with_condition}
use Rattle.pm_books.proofs.ReadRules.{has-only_itself}
use Rattle.pm_props.proofs.Members.{has-only}
use Rattle.pm_props.proofs.NameLemmas.{named_exactly, some_same}
use Rattle.pm_props.proofs.Numbers.{number_is}
use Rattle.pm_props.specs.Names.{IsNameOf}
use Rattle.pm_props.specs.Properties.{number, value_kind}
use Rattle.pm_props.specs.Sets.{has, only, union}
use Rattle.pm_props.specs.declared.property.PropId.{PropId}
use Rattle.pm_props.specs.declared.property.ValueKind.TheVariants as value
use Rattle.pm_props.specs.declared.set.PropSet.{PropSet}
use Rattle.pm_rules.proofs.Followed.{in_union_cases, in_union_left, in_union_right}

-- ---- one of a list
pub any_here : {X : Type 0} (P : X → Type 0) (x : X) (xs : List X) → P x → Any P (x ∷ xs)
any_here P x xs p = (0, x, omega arith, refl, p)

pub any_there : {X : Type 0} (P : X → Type 0) (x : X) (xs : List X) → Any P xs → Any P (x ∷ xs)
any_there P x xs (k, y, l, e, p) = (suc k, y, omega arith, e, p)

pub any_cases : {X : Type 0} (P : X → Type 0) (x : X) (xs : List X) → Any P (x ∷ xs) → P x ⊎ Any P xs
any_cases P x xs (zero, y, l, e, p) = inl (subst P (sym e) p)
any_cases P x xs (suc k, y, l, e, p) = inr (k, y, omega arith, e, p)

pub any_none : {X : Type 0} (P : X → Type 0) → ¬ (Any P [])
any_none P (k, y, l, e, p) = omega arith

-- ---- names
only_one : (p q : PropId) → has (only p) q ≡ true → p ≡ q
only_one p q h = number_is p q (eqb-true (number p) (number q) (sym (has-only p q) ∙ h))

pub one_property : (text : List ℕ) (p q : PropId) → IsNameOf text p → IsNameOf text q → p ≡ q
one_property text p q h k = some_same p q (sym ((named_exactly text p).1 h) ∙ (named_exactly text q).1 k)

pub name_added : (names : List (List ℕ)) (set last : PropSet) (name : List ℕ) (p : PropId) → AddNames names set last → IsNameOf name p → has last p ≡ false → AddNames (names ++ name ∷ []) set (union last (only p))
name_added [] set last name p h is new = (p, is, ap (λ (s : PropSet). has s p) h ∙ new, ap (λ (s : PropSet). union s (only p)) h)
name_added (n ∷ names) set last name p (q, named, fresh, more) is new = (q, named, fresh, name_added names (union set (only q)) last name p more is new)

pub names_have : (names : List (List ℕ)) (set last : PropSet) (p : PropId) → AddNames names set last → has last p ≡ true → (has set p ≡ true) ⊎ Any (λ name. IsNameOf name p) names
names_have [] set last p h e = inl (ap (λ (s : PropSet). has s p) h ∙ e)
names_have (n ∷ names) set last p (q, named, fresh, more) e = elim (names_have names (union set (only q)) last p more e) [
  | inl in' ↦ elim (in_union_cases set (only q) p in') [
    | inl before ↦ inl before
    | inr it ↦ inr (any_here (λ name. IsNameOf name p) n names (subst (λ (r : PropId). IsNameOf n r) (only_one q p it) named))
  ]
  | inr later ↦ inr (any_there (λ name. IsNameOf name p) n names later)
]

pub set_kept : (names : List (List ℕ)) (set last : PropSet) (p : PropId) → AddNames names set last → has set p ≡ true → has last p ≡ true
set_kept [] set last p h e = ap (λ (s : PropSet). has s p) (sym h) ∙ e
set_kept (n ∷ names) set last p (q, named, fresh, more) e = set_kept names (union set (only q)) last p more (in_union_left set (only q) p e)

pub have_names : (names : List (List ℕ)) (set last : PropSet) (p : PropId) → AddNames names set last → Any (λ name. IsNameOf name p) names → has last p ≡ true
have_names [] set last p h any = absurd (any_none (λ name. IsNameOf name p) any)
have_names (n ∷ names) set last p (q, named, fresh, more) any = elim (any_cases (λ name. IsNameOf name p) n names any) [
  | inl it ↦ set_kept names (union set (only q)) last p more (in_union_right set (only q) p (subst (λ (r : PropId). has (only q) r ≡ true) (one_property n q p named it) (has-only_itself q)))
  | inr later ↦ have_names names (union set (only q)) last p more later
]

pub one_set : (names : List (List ℕ)) (set first second : PropSet) → AddNames names set first → AddNames names set second → first ≡ second
one_set [] set first second h k = sym h ∙ k
one_set (n ∷ names) set first second (p, named, fresh, more) (q, other, also, rest) =
    one_set names (union set (only p)) first second more (subst (λ (r : PropId). AddNames names (union set (only r)) second) (sym (one_property n p q named other)) rest)

-- ---- conditions
abbrev pub both : Conditions → PropSet
both found = union found.must found.must_not

abbrev pub names_in : List Condition → List (List ℕ)
names_in cs = map (λ c. c.name) cs

pub condition_added : (cs : List Condition) (found last : Conditions) (c : Condition) (p : PropId) → AddConditions cs found last → IsNameOf c.name p → value_kind p ≡ value.Bool → has (both last) p ≡ false
    → AddConditions (cs ++ c ∷ []) found (with_condition last c.negated p)
condition_added [] found last c p h is truth new = (p, is, truth, ap (λ (s : Conditions). has (both s) p) h ∙ new, ap (λ (s : Conditions). with_condition s c.negated p) h)
condition_added (d ∷ cs) found last c p (q, named, flag, fresh, more) is truth new = (q, named, flag, fresh, condition_added cs (with_condition found d.negated q) last c p more is truth new)

with_cases : (found : Conditions) (negated : Bool) (q p : PropId) → has (both (with_condition found negated q)) p ≡ true → (has (both found) p ≡ true) ⊎ (q ≡ p)
with_cases found true q p e = elim (in_union_cases found.must (union found.must_not (only q)) p e) [
  | inl h ↦ inl (in_union_left found.must found.must_not p h)
  | inr h ↦ elim (in_union_cases found.must_not (only q) p h) [
    | inl k ↦ inl (in_union_right found.must found.must_not p k)
    | inr k ↦ inr (only_one q p k)
  ]
]
with_cases found false q p e = elim (in_union_cases (union found.must (only q)) found.must_not p e) [
  | inl h ↦ elim (in_union_cases found.must (only q) p h) [
    | inl k ↦ inl (in_union_left found.must found.must_not p k)
    | inr k ↦ inr (only_one q p k)
  ]
  | inr h ↦ inl (in_union_right found.must found.must_not p h)
]

with_kept : (found : Conditions) (negated : Bool) (q p : PropId) → has (both found) p ≡ true → has (both (with_condition found negated q)) p ≡ true
with_kept found true q p e = elim (in_union_cases found.must found.must_not p e) [
  | inl h ↦ in_union_left found.must (union found.must_not (only q)) p h
  | inr h ↦ in_union_right found.must (union found.must_not (only q)) p (in_union_left found.must_not (only q) p h)
]
with_kept found false q p e = elim (in_union_cases found.must found.must_not p e) [
  | inl h ↦ in_union_left (union found.must (only q)) found.must_not p (in_union_left found.must (only q) p h)
  | inr h ↦ in_union_right (union found.must (only q)) found.must_not p h
]

with_new : (found : Conditions) (negated : Bool) (q : PropId) → has (both (with_condition found negated q)) q ≡ true
with_new found true q = in_union_right found.must (union found.must_not (only q)) q (in_union_right found.must_not (only q) q (has-only_itself q))
with_new found false q = in_union_left (union found.must (only q)) found.must_not q (in_union_right found.must (only q) q (has-only_itself q))

pub conditions_have : (cs : List Condition) (found last : Conditions) (p : PropId) → AddConditions cs found last → has (both last) p ≡ true → (has (both found) p ≡ true) ⊎ Any (λ name. IsNameOf name p) (names_in cs)
conditions_have [] found last p h e = inl (ap (λ (s : Conditions). has (both s) p) h ∙ e)
conditions_have (c ∷ cs) found last p (q, named, flag, fresh, more) e = elim (conditions_have cs (with_condition found c.negated q) last p more e) [
  | inl in' ↦ elim (with_cases found c.negated q p in') [
    | inl before ↦ inl before
    | inr it ↦ inr (any_here (λ name. IsNameOf name p) c.name (names_in cs) (subst (λ (r : PropId). IsNameOf c.name r) it named))
  ]
  | inr later ↦ inr (any_there (λ name. IsNameOf name p) c.name (names_in cs) later)
]

conditions_kept : (cs : List Condition) (found last : Conditions) (p : PropId) → AddConditions cs found last → has (both found) p ≡ true → has (both last) p ≡ true
conditions_kept [] found last p h e = ap (λ (s : Conditions). has (both s) p) (sym h) ∙ e
conditions_kept (c ∷ cs) found last p (q, named, flag, fresh, more) e = conditions_kept cs (with_condition found c.negated q) last p more (with_kept found c.negated q p e)

pub have_conditions : (cs : List Condition) (found last : Conditions) (p : PropId) → AddConditions cs found last → Any (λ name. IsNameOf name p) (names_in cs) → has (both last) p ≡ true
have_conditions [] found last p h any = absurd (any_none (λ name. IsNameOf name p) any)
have_conditions (c ∷ cs) found last p (q, named, flag, fresh, more) any = elim (any_cases (λ name. IsNameOf name p) c.name (names_in cs) any) [
  | inl it ↦ conditions_kept cs (with_condition found c.negated q) last p more
      (subst (λ (r : PropId). has (both (with_condition found c.negated q)) r ≡ true) (one_property c.name q p named it) (with_new found c.negated q))
  | inr later ↦ have_conditions cs (with_condition found c.negated q) last p more later
]

pub one_conditions : (cs : List Condition) (found first second : Conditions) → AddConditions cs found first → AddConditions cs found second → first ≡ second
one_conditions [] found first second h k = sym h ∙ k
one_conditions (c ∷ cs) found first second (p, named, flag, fresh, more) (q, other, also, again, rest) =
    one_conditions cs (with_condition found c.negated p) first second more
    (subst (λ (r : PropId). AddConditions cs (with_condition found c.negated r) second) (sym (one_property c.name p q named other)) rest)
