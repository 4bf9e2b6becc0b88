-- Drafts into which values were put: the facts of their answers are the values of the targets.
use Rattle.pm_vector.proofs.Filters.{filter_among}
use Rattle.pm_vector.proofs.Lists.{All_among, Among, among_append, here, there}
use Rattle.pm_object.specs.Reading.{Put, answer_at, drafted, fact_at}
use Rattle.pm_props.proofs.Every.{has-set_of}
use Rattle.pm_props.proofs.Places.{same_property_is}
use Rattle.pm_props.specs.Properties.{every_property, number}
use Rattle.pm_props.specs.Places.{place_of, same_property}
use Rattle.pm_props.specs.Sets.{has, members, set_of}
use Rattle.pm_types.specs.Values.{Fact, PropertyValue}
use Rattle.pm_props.specs.declared.property.PropId.{PropId}
use Rattle.std.proofs.Common.{ap, arith, eqb, false, inl, inr, refl, subst, sym, true, true≢false, ◌∙◌}
use Rattle.std.specs.List.{All, AllByRecursion, list_any}
use Rattle.std.specs.Option.{is_some}
use Rattle.std.specs.Prelude.{Bool, List, None, Option, Some, [], if◌then◌else◌, map, nat_eq, ℕ, ◌++◌, ◌||◌, ◌∷◌, ◌≡◌}

-- the value x of the property p
abbrev pub put : PropId → PropertyValue → Put
put p x = record { property = p; value = x }

-- the properties of the values that were put
abbrev pub properties_of : List Put → List PropId
properties_of puts = map (λ x. x.property) puts

-- these values as facts
abbrev pub fact_put : Option ℕ → Put → Fact
fact_put sub x = record { place = place_of sub x.property; property = x.property; value = x.value }

abbrev pub facts_of : Option ℕ → List Put → List Fact
facts_of sub puts = map (fact_put sub) puts

-- ---- each fact of an answer is a value that was put
only_one : {X : Type 0} {x y : X} → Among x (y ∷ []) → x ≡ y
only_one here = refl
only_one (there i) = elim i [ ]

first_put : (sub : Option ℕ) (p : PropId) (puts : List Put) (f : Fact) → Among f (fact_at sub p (drafted p puts)) → Among f (facts_of sub puts)
first_put sub p [] f i = elim i [ ]
first_put sub p (x ∷ puts) f i = by (same_property p x.property) refl (first_put sub p puts f) i
  where
    by : (b : Bool) → same_property p x.property ≡ b → (Among f (fact_at sub p (drafted p puts)) → Among f (facts_of sub puts)) → Among f (fact_at sub p (if b then Some x.value else drafted p puts))
        → Among f (facts_of sub (x ∷ puts))
    by true e more j =
        let this : f ≡ fact_put sub x = only_one j ∙ ap (λ (q : PropId). record { place = place_of sub q; property = q; value = x.value }) (same_property_is p x.property e) in
        subst (λ z. Among z (facts_of sub (x ∷ puts))) (sym this) here
    by false e more j = there (more j)

pub answer_put : (sub : Option ℕ) (ps : List PropId) (puts : List Put) (f : Fact) → Among f (answer_at sub ps puts) → Among f (facts_of sub puts)
answer_put sub [] puts f i = elim i [ ]
answer_put sub (p ∷ ps) puts f i = elim (among_append (fact_at sub p (drafted p puts)) (answer_at sub ps puts) i) [
  | inl j ↦ first_put sub p puts f j
  | inr j ↦ answer_put sub ps puts f j
]

-- what is so of each value that was put, as a fact, is so of each fact of the answer
at_put : (P : Fact → Type 0) (sub : Option ℕ) (puts : List Put) {f : Fact} → Among f (facts_of sub puts) → AllByRecursion (λ x. P (fact_put sub x)) puts → P f
at_put P sub [] i h = elim i [ ]
at_put P sub (x ∷ puts) here h = h.0
at_put P sub (x ∷ puts) (there i) h = at_put P sub puts i h.1

pub all_answered : (P : Fact → Type 0) (sub : Option ℕ) (ps : List PropId) (puts : List Put) → AllByRecursion (λ x. P (fact_put sub x)) puts → All P (answer_at sub ps puts)
all_answered P sub ps puts h = All_among P (answer_at sub ps puts) (λ f i. at_put P sub puts (answer_put sub ps puts f i) h)

pub all_placed : (sub : Option ℕ) (puts : List Put) → AllByRecursion (λ x. (fact_put sub x).place ≡ place_of sub (fact_put sub x).property) puts
all_placed sub [] = tt
all_placed sub (x ∷ puts) = (refl, all_placed sub puts)

-- ---- each target has a value
turned : (a b : ℕ) → nat_eq a b ≡ false → eqb b a ≡ false
turned a b h = grind arith

later : (a b : Bool) → a ≡ false → (a || b) ≡ true → b ≡ true
later true b e h = absurd (true≢false e)
later false b e h = h

drafted_there : (p : PropId) (puts : List Put) → list_any (λ q. eqb (number q) (number p)) (properties_of puts) ≡ true → is_some (drafted p puts) ≡ true
drafted_there p [] h = h
drafted_there p (x ∷ puts) h = by (same_property p x.property) refl (drafted_there p puts)
  where
    any : List PropId → Bool
    any ps = list_any (λ q. eqb (number q) (number p)) ps

    by : (b : Bool) → same_property p x.property ≡ b → (any (properties_of puts) ≡ true → is_some (drafted p puts) ≡ true) → is_some (if b then Some x.value else drafted p puts) ≡ true
    by true e more = refl
    by false e more = more (later (eqb (number x.property) (number p)) (any (properties_of puts)) (turned (number p) (number x.property) e) h)

pub member_had : (s : ℕ) (p : PropId) → Among p (members s) → has s p ≡ true
unfolding members
member_had s p i = (filter_among (has s) every_property i).1

pub targets_drafted : (targets : ℕ) (puts : List Put) → targets ≡ set_of (properties_of puts) → (p : PropId) → Among p (members targets) → is_some (drafted p puts) ≡ true
targets_drafted targets puts e p i = drafted_there p puts (sym (has-set_of (properties_of puts) p) ∙ ap (λ s. has s p) (sym e) ∙ member_had targets p i)

pub answered : (sub : Option ℕ) (ps : List PropId) (puts : List Put) → ((p : PropId) → Among p ps → is_some (drafted p puts) ≡ true) → map (λ f. f.property) (answer_at sub ps puts) ≡ ps
answered sub [] puts h = refl
answered sub (p ∷ ps) puts h = one (drafted p puts) (h p here) (answered sub ps puts (λ q i. h q (there i)))
  where
    one : (v : Option PropertyValue) → is_some v ≡ true → map (λ f. f.property) (answer_at sub ps puts) ≡ ps → map (λ f. f.property) (fact_at sub p v ++ answer_at sub ps puts) ≡ p ∷ ps
    one None k e = absurd (true≢false (sym k))
    one (Some x) k e = ap (λ qs. p ∷ qs) e
