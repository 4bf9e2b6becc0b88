-- How lists of names and of conditions are read, one after the other.
use Rattle.std.proofs.Common.{◌≡◌, ℕ, Bool, true, false, Ok, Err, List, [], ◌∷◌, map, length, refl, sym, ap, ◌∙◌, ◌<◌, MatchBool, arith}
use Rattle.std.specs.List.{AllWithin, HoldsAt, list_any}
use Rattle.std.proofs.lemmas.List.Elements.{All-from_all_within}
use Rattle.std.proofs.lemmas.List.Folds.{list_any_at, list_any_none}
use Rattle.pm_props.specs.declared.property.PropId.{PropId}
use Rattle.pm_props.specs.declared.set.PropSet.{PropSet}
use Rattle.pm_props.specs.Sets.{only, union}
use Rattle.pm_books.specs.declared.token.Token.{Token as CodeToken}
use Rattle.pm_books.specs.declared.fail.BookFail.{BookFail}
use Rattle.pm_books.specs.declared.fail.BookFail.TheVariants.{Syntax}
use Rattle.pm_books.specs.Tokens.{Token}
use Rattle.pm_books.specs.Seen.{seen}
use Rattle.pm_books.specs.Gives.{IsBehindComma, HasNoComma, EndsBefore, HasCondition}
use Rattle.pm_books.specs.Reading.{name_of, names_from, is_not, Conditions, condition_of, with_condition, conditions_from}
use Rattle.pm_books.specs.Reading.Due.{condition, comma}

-- ---- names
pub names_none : (set : PropSet) (end : ℕ) (ts : List CodeToken) → length ts ≡ 0 → names_from true set end (map seen ts) ≡ Err (Syntax end)
unfolding names_from
names_none set end [] e = refl
names_none set end (t ∷ ts) e = absurd (omega arith)

pub names_fault : (set : PropSet) (end : ℕ) (t : Token) (ts : List Token) (e : BookFail) → name_of set t ≡ Err e → names_from true set end (t ∷ ts) ≡ Err e
unfolding names_from
names_fault set end t ts e h = rw h refl

comma_last : (set : PropSet) (end : ℕ) (ts : List Token) → HasNoComma ts → names_from false set end ts ≡ Ok (set, ts)
unfolding names_from
comma_last set end [] h = refl
comma_last set end (t ∷ ts) h = rw h refl

comma_next : (set : PropSet) (end : ℕ) (ts rest : List Token) → IsBehindComma ts rest → names_from false set end ts ≡ names_from true set end rest
unfolding names_from
comma_next set end [] rest h = absurd h
comma_next set end (t ∷ ts) rest h = rw (h.0, h.1) refl

names_one : (set : PropSet) (end : ℕ) (t : Token) (ts : List Token) (p : PropId) → name_of set t ≡ Ok p → names_from true set end (t ∷ ts) ≡ names_from false (union set (only p)) end ts
unfolding names_from
names_one set end t ts p h = rw h refl

pub names_last : (set more : PropSet) (end : ℕ) (t : Token) (ts : List Token) (p : PropId) → name_of set t ≡ Ok p → more ≡ union set (only p) → HasNoComma ts
    → names_from true set end (t ∷ ts) ≡ Ok (more, ts)
names_last set more end t ts p h e last = names_one set end t ts p h ∙ comma_last (union set (only p)) end ts last ∙ ap (λ s. Ok (s, ts)) (sym e)

pub names_next : (set more : PropSet) (end : ℕ) (t : Token) (ts rest : List Token) (p : PropId) → name_of set t ≡ Ok p → more ≡ union set (only p) → IsBehindComma ts rest
    → names_from true set end (t ∷ ts) ≡ names_from true more end rest
names_next set more end t ts rest p h e next =
    names_one set end t ts p h ∙ comma_next (union set (only p)) end ts rest next ∙ ap (λ s. names_from true s end rest) (sym e)

-- ---- conditions
conditions_last : (found : Conditions) (end : ℕ) (ts : List Token) → HasNoComma ts → conditions_from comma found end ts ≡ Ok (found, ts)
unfolding conditions_from
conditions_last found end [] h = refl
conditions_last found end (t ∷ ts) h = rw h refl

conditions_next : (found : Conditions) (end : ℕ) (ts rest : List Token) → IsBehindComma ts rest → conditions_from comma found end ts ≡ conditions_from condition found end rest
unfolding conditions_from
conditions_next found end [] rest h = absurd h
conditions_next found end (t ∷ ts) rest h = rw (h.0, h.1) refl

pub condition_last : (found more : Conditions) (end : ℕ) (ts behind : List Token) (negated : Bool) (t : Token) (p : PropId) → HasCondition ts negated t behind → condition_of found t ≡ Ok p
    → more ≡ with_condition found negated p → HasNoComma behind → conditions_from condition found end ts ≡ Ok (more, behind)
condition_last found more end ts behind negated t p has h e last =
    has found end ∙ (rw h (conditions_last (with_condition found negated p) end behind last)) ∙ ap (λ f. Ok (f, behind)) (sym e)

pub condition_next : (found more : Conditions) (end : ℕ) (ts behind rest : List Token) (negated : Bool) (t : Token) (p : PropId) → HasCondition ts negated t behind → condition_of found t ≡ Ok p
    → more ≡ with_condition found negated p → IsBehindComma behind rest → conditions_from condition found end ts ≡ conditions_from condition more end rest
condition_next found more end ts behind rest negated t p has h e next =
    has found end ∙ (rw h (conditions_next (with_condition found negated p) end behind rest next)) ∙ ap (λ f. conditions_from condition f end rest) (sym e)

-- what comes next: no condition, one, or one behind `!`
pub ends_here : (ts : List CodeToken) → length ts ≡ 0 → EndsBefore (map seen ts)
unfolding conditions_from
ends_here [] e = λ found end. refl
ends_here (t ∷ ts) e = absurd (omega arith)

pub ends_behind : (t : Token) (ts : List CodeToken) → true ≡ is_not t → length ts ≡ 0 → EndsBefore (t ∷ map seen ts)
unfolding conditions_from
ends_behind t [] h e = λ found end. rw (sym h) refl
ends_behind t (u ∷ ts) h e = absurd (omega arith)

pub condition_here : (t : Token) (ts : List Token) → false ≡ is_not t → HasCondition (t ∷ ts) false t ts
unfolding conditions_from
condition_here t ts h = λ found end. rw (sym h) refl

pub condition_behind : (t u : Token) (ts : List Token) → true ≡ is_not t → HasCondition (t ∷ u ∷ ts) true u ts
unfolding conditions_from
condition_behind t u ts h = λ found end. rw (sym h) refl

-- what a search for an element says
pub any_from_cases : {X : Type 0} (p : X → Bool) (xs : List X) (r : Bool)
    → MatchBool r ((k : ℕ) × (k < length xs) × HoldsAt (λ x. p x ≡ true) xs k) (AllWithin (λ x. p x ≡ false) xs 0 (length xs)) → r ≡ list_any p xs
any_from_cases p [] true h = absurd (omega (arith, h.1))
any_from_cases p (x ∷ xs) true h = sym (list_any_at p (x ∷ xs) h.0 x h.1 (h.2 x))
any_from_cases p xs false h = sym (list_any_none p xs (All-from_all_within (λ x. p x ≡ false) xs h))
