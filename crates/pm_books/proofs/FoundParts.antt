-- What was read is spelled by the grammar: names and conditions.
use Rattle.std.proofs.Common.{◌≡◌, ℕ, Bool, true, false, Result, Ok, List, [], ◌∷◌, ◌++◌, inl, inr, map, refl, sym, ap, ◌∙◌, subst, arith, append_assoc, codes}
use Rattle.std.specs.List.{flat_map}
use Rattle.std.specs.Str.{bytes_eq}
use Rattle.std.proofs.lemmas.Bool.{cases_Bool}
use Rattle.std.proofs.lemmas.Slice.Eq.{bytes_eq-Decides}
use Rattle.pm_props.specs.declared.property.PropId.{PropId}
use Rattle.pm_props.specs.declared.set.PropSet.{PropSet}
use Rattle.pm_props.specs.Sets.{has, only, union}
use Rattle.pm_props.specs.Names.{IsNameOf}
use Rattle.pm_props.proofs.NameLemmas.{named_exactly}
use Rattle.pm_books.specs.declared.fail.BookFail.{BookFail}
use Rattle.pm_books.specs.declared.fail.BookFail.TheVariants.{Syntax}
use Rattle.pm_books.specs.Tokens.{Token}
use Rattle.pm_books.specs.Reading.{◌>>=◌, token_where, after, name_of, is_comma, names_from, Conditions, with_condition, condition_of, is_not, conditions_from}
use Rattle.pm_books.specs.Reading.{Due}
use Rattle.pm_books.specs.Reading.Due.{condition, name, comma}
use Rattle.pm_books.specs.Grammar.{Condition, behind_comma, separated, name_item, condition_item, AddNames, AreNames, AddConditions, texts}
use Rattle.pm_books.proofs.ReadRules.{bind_ok, ok_same, guard_ok, name_of_ok, condition_of_ok}

-- ---- tokens
pub token_where_found : (test : List ℕ → Bool) (end : ℕ) (ts : List Token) (x : Token × List Token) → token_where test end ts ≡ Ok x → texts ts ≡ x.0.text ∷ texts x.1
unfolding token_where
token_where_found test end [] x h = cc
token_where_found test end (t ∷ ts) x h =
    let parts = guard_ok (test t.text) (Ok (t, ts)) (Syntax t.place) x h in
    ap (λ (y : Token × List Token). y.0.text ∷ texts y.1) (ok_same (t, ts) x parts.1)

token_where_passed : (test : List ℕ → Bool) (end : ℕ) (ts : List Token) (x : Token × List Token) → token_where test end ts ≡ Ok x → test x.0.text ≡ true
unfolding token_where
token_where_passed test end [] x h = cc
token_where_passed test end (t ∷ ts) x h =
    let parts = guard_ok (test t.text) (Ok (t, ts)) (Syntax t.place) x h in
    ap (λ (y : Token × List Token). test y.0.text) (sym (ok_same (t, ts) x parts.1)) ∙ parts.0

pub after_found : (word : List ℕ) (end : ℕ) (ts rest : List Token) → after word end ts ≡ Ok rest → texts ts ≡ word ∷ texts rest
unfolding after
after_found word end ts rest h =
    let step = bind_ok (token_where (λ w. bytes_eq w word) end ts) (λ found. Ok found.1) rest h in
    token_where_found (λ w. bytes_eq w word) end ts step.0 step.1
    ∙ ap (λ w. w ∷ texts step.0.1) ((bytes_eq-Decides step.0.0.text word).0 (token_where_passed (λ w. bytes_eq w word) end ts step.0 step.1))
    ∙ ap (λ (r : List Token). word ∷ texts r) (ok_same step.0.1 rest step.2)

comma_text : (t : Token) → is_comma t ≡ true → t.text ≡ codes ","
comma_text t h = (bytes_eq-Decides t.text (codes ",")).0 h

-- ---- names
FoundNames : Bool → PropSet → List Token → PropSet × List Token → Type 0
FoundNames true set ts x = (n : List ℕ) × (names : List (List ℕ)) × AddNames (n ∷ names) set x.0 × (texts ts ≡ separated (map name_item (n ∷ names)) ++ texts x.1)
FoundNames false set ts x = (names : List (List ℕ)) × AddNames names set x.0 × (texts ts ≡ flat_map behind_comma (map name_item names) ++ texts x.1)

name_found : (set : PropSet) (t : Token) (p : PropId) → name_of set t ≡ Ok p → IsNameOf t.text p × (has set p ≡ false)
name_found set t p h = let parts = name_of_ok set t p h in ((named_exactly t.text p).0 parts.1, parts.0)

names_found_from : (due : Bool) (set : PropSet) (end : ℕ) (ts : List Token) (x : PropSet × List Token) → names_from due set end ts ≡ Ok x → FoundNames due set ts x
unfolding names_from FoundNames
names_found_from true set end [] x h = cc
names_found_from true set end (t ∷ ts) x h =
    let step = bind_ok (name_of set t) (λ p. names_from false (union set (only p)) end ts) x h in
    let named = name_found set t step.0 step.1 in
    let more = names_found_from false (union set (only step.0)) end ts x step.2 in
    (t.text, more.0, (step.0, named.0, named.1, more.1), ap (λ ws. t.text ∷ ws) more.2)
names_found_from false set end [] x h =
    let same = ok_same (set, []) x h in
    subst (λ (y : PropSet × List Token). (names : List (List ℕ)) × AddNames names set y.0 × ([] ≡ flat_map behind_comma (map name_item names) ++ texts y.1)) same ([], refl, refl)
names_found_from false set end (t ∷ ts) x h = elim (cases_Bool (is_comma t)) [
  | inl e ↦ (let more = names_found_from true set end ts x (rw e at h) in
      (more.0 ∷ more.1, more.2, ap (λ w. w ∷ texts ts) (comma_text t e) ∙ ap (λ ws. codes "," ∷ ws) more.3))
  | inr e ↦ (let h' : ◌≡◌ {A = Result (PropSet × List Token) BookFail} (Ok (set, t ∷ ts)) (Ok x) = (rw e at h) in
      subst (λ (y : PropSet × List Token). (names : List (List ℕ)) × AddNames names set y.0 × (texts (t ∷ ts) ≡ flat_map behind_comma (map name_item names) ++ texts y.1)) (ok_same (set, t ∷ ts) x h') ([], refl, refl))
]

pub names_found : (end : ℕ) (ts : List Token) (x : PropSet × List Token) → names_from true 0 end ts ≡ Ok x
    → (names : List (List ℕ)) × AreNames names x.0 × (texts ts ≡ separated (map name_item names) ++ texts x.1)
unfolding FoundNames
names_found end ts x h = let found = names_found_from true 0 end ts x h in (found.0 ∷ found.1, (omega arith, found.2), found.3)

-- ---- conditions
FoundConditions : Due → Conditions → List Token → Conditions × List Token → Type 0
FoundConditions condition found ts x = (c : Condition) × (cs : List Condition) × AddConditions (c ∷ cs) found x.0 × (texts ts ≡ separated (map condition_item (c ∷ cs)) ++ texts x.1)
FoundConditions name found ts x = (text : List ℕ) × (cs : List Condition) × AddConditions (record { negated = true; name = text } ∷ cs) found x.0
    × (texts ts ≡ text ∷ (flat_map behind_comma (map condition_item cs) ++ texts x.1))
FoundConditions comma found ts x = (cs : List Condition) × AddConditions cs found x.0 × (texts ts ≡ flat_map behind_comma (map condition_item cs) ++ texts x.1)

sign_text : (t : Token) → is_not t ≡ true → t.text ≡ codes "!"
sign_text t h = (bytes_eq-Decides t.text (codes "!")).0 h

conditions_found_from : (due : Due) (found : Conditions) (end : ℕ) (ts : List Token) (x : Conditions × List Token) → conditions_from due found end ts ≡ Ok x → FoundConditions due found ts x
unfolding conditions_from FoundConditions
conditions_found_from condition found end [] x h = cc
conditions_found_from condition found end (t ∷ ts) x h = elim (cases_Bool (is_not t)) [
  | inl e ↦ (let more = conditions_found_from name found end ts x (rw e at h) in
      (record { negated = true; name = more.0 }, more.1, more.2, ap (λ w. w ∷ texts ts) (sign_text t e) ∙ ap (λ ws. codes "!" ∷ ws) more.3))
  | inr e ↦ (let h' : (condition_of found t >>= λ p. conditions_from comma (with_condition found false p) end ts) ≡ Ok x = (rw e at h) in
      let step = bind_ok (condition_of found t) (λ p. conditions_from comma (with_condition found false p) end ts) x h' in
      let named = condition_of_ok found t step.0 step.1 in
      let more = conditions_found_from comma (with_condition found false step.0) end ts x step.2 in
      (record { negated = false; name = t.text }, more.0, (step.0, (named_exactly t.text step.0).0 named.2, named.1, named.0, more.1), ap (λ ws. t.text ∷ ws) more.2))
]
conditions_found_from name found end [] x h = cc
conditions_found_from name found end (t ∷ ts) x h =
    let step = bind_ok (condition_of found t) (λ p. conditions_from comma (with_condition found true p) end ts) x h in
    let named = condition_of_ok found t step.0 step.1 in
    let more = conditions_found_from comma (with_condition found true step.0) end ts x step.2 in
    (t.text, more.0, (step.0, (named_exactly t.text step.0).0 named.2, named.1, named.0, more.1), ap (λ ws. t.text ∷ ws) more.2)
conditions_found_from comma found end [] x h =
    let same = ok_same (found, []) x h in
    subst (λ (y : Conditions × List Token). (cs : List Condition) × AddConditions cs found y.0 × ([] ≡ flat_map behind_comma (map condition_item cs) ++ texts y.1)) same ([], refl, refl)
conditions_found_from comma found end (t ∷ ts) x h = elim (cases_Bool (is_comma t)) [
  | inl e ↦ (let more = conditions_found_from condition found end ts x (rw e at h) in (
    more.0 ∷ more.1,
    more.2,
    ap (λ w. w ∷ texts ts) (comma_text t e) ∙ ap (λ ws. codes "," ∷ ws) (more.3 ∙ append_assoc (condition_item more.0) (flat_map behind_comma (map condition_item more.1)) (texts x.1))
        ∙ sym (append_assoc (codes "," ∷ condition_item more.0) (flat_map behind_comma (map condition_item more.1)) (texts x.1)),
  ))
  | inr e ↦ (let h' : ◌≡◌ {A = Result (Conditions × List Token) BookFail} (Ok (found, t ∷ ts)) (Ok x) = (rw e at h) in
      subst (λ (y : Conditions × List Token). (cs : List Condition) × AddConditions cs found y.0 × (texts (t ∷ ts) ≡ flat_map behind_comma (map condition_item cs) ++ texts y.1)) (ok_same (found, t ∷ ts) x h') ([], refl, refl))
]

pub conditions_found : (found : Conditions) (end : ℕ) (ts : List Token) (x : Conditions × List Token) → conditions_from condition found end ts ≡ Ok x
    → (c : Condition) × (cs : List Condition) × AddConditions (c ∷ cs) found x.0 × (texts ts ≡ separated (map condition_item (c ∷ cs)) ++ texts x.1)
unfolding FoundConditions
conditions_found found end ts x h = conditions_found_from condition found end ts x h
