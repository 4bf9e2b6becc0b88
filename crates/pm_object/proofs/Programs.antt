-- An object with one linear program more.
use Rattle.pm_object.specs.Formed.{ArePrograms, IsFormed, IsFormedIn, are_different, is_placed}
use Rattle.pm_object.specs.State.{HeldValue, State, cols_of, is_polytope, place_from, program_refusal, with_program}
use Rattle.pm_props.specs.NameWords.{is_name}
use Rattle.pm_props.specs.Properties.{has_program}
use Rattle.pm_object_type.specs.declared.object_type.ObjectType.{ObjectType}
use Rattle.pm_props.specs.declared.property.PropId.{PropId}
use Rattle.std.proofs.Common.{ap, arith, false, refl, subst, sym, true, true≢false, ◌∙◌}
use Rattle.std.proofs.lemmas.Bool.{and_from, and_parts, not-false}
use Rattle.std.proofs.lemmas.List.{length-append}
use Rattle.std.proofs.lemmas.List.Folds.{list_all-append, list_any-append}
use Rattle.std.specs.List.{list_any}
use Rattle.std.specs.Option.{is_some}
use Rattle.std.specs.Prelude.{Bool, List, None, Option, Some, [], if◌then◌else◌, length, map, nat_le, nat_lt, not, suc, ℕ, ◌&&◌, ◌+◌, ◌++◌, ◌||◌, ◌≡◌, ◌∷◌}
use Rattle.std.specs.Str.{bytes_eq}
use Rattle.pm_limits.specs.Limits.{most_programs}

-- ---- values stand where they stood
still_less : (s k : ℕ) → nat_lt s k ≡ true → nat_lt s (k + 1) ≡ true
still_less s k h = grind arith

still_placed : (k : ℕ) (p : PropId) (place : Option ℕ) → is_placed k p place ≡ true → is_placed (k + 1) p place ≡ true
still_placed k p None h = h
still_placed k p (Some s) h = let both = and_parts (has_program p) (nat_lt s k) h in and_from (has_program p) (nat_lt s (k + 1)) both.0 (still_less s k both.1)

still_formed : (of : ObjectType) (n : Option ℕ) (k : ℕ) (h : HeldValue) → IsFormedIn of n k h → IsFormedIn of n (k + 1) h
still_formed of n k h f = record { formed = f.formed; columns = f.columns; rows = f.rows; entries = f.entries; primitive = f.primitive; placed = still_placed k h.property h.place f.placed; table = f.table }

-- ---- names
one_more : (names : List (List ℕ)) (name : List ℕ) → length (names ++ name ∷ []) ≡ length names + 1
one_more names name = length-append names (name ∷ [])

-- a name that has no place is none of the names
not_placed : (k : ℕ) (name : List ℕ) (other : List ℕ) (names : List (List ℕ)) → place_from k name (other ∷ names) ≡ None → (bytes_eq other name ≡ false) × (place_from (suc k) name names ≡ None)
not_placed k name other names e = by (bytes_eq other name) refl e
  where
    by : (t : Bool) → bytes_eq other name ≡ t → (if t then Some k else place_from (suc k) name names) ≡ None → (bytes_eq other name ≡ false) × (place_from (suc k) name names ≡ None)
    by true s h = absurd (true≢false (ap is_some h))
    by false s h = (s, h)

different_push : (k : ℕ) (names : List (List ℕ)) (name : List ℕ) → are_different names ≡ true → place_from k name names ≡ None → are_different (names ++ name ∷ []) ≡ true
different_push k [] name d e = refl
different_push k (other ∷ names) name d e =
    let (apart, rest) = not_placed k name other names e in
    let both = and_parts (not (list_any (bytes_eq other) names)) (are_different names) d in
    let first : list_any (bytes_eq other) (names ++ name ∷ []) ≡ list_any (bytes_eq other) names =
    list_any-append (bytes_eq other) names (name ∷ []) ∙ ap (λ t. list_any (bytes_eq other) names || (t || false)) apart ∙ or_false (list_any (bytes_eq other) names) in
    and_from (not (list_any (bytes_eq other) (names ++ name ∷ []))) (are_different (names ++ name ∷ [])) (ap not first ∙ both.0) (different_push (suc k) names name both.1 rest)
  where
    or_false : (b : Bool) → (b || false) ≡ b
    or_false true = refl
    or_false false = refl

-- ---- why none is refused
pub not_refused : {E : Type 0} (b : Bool) (e : E) (r : Option E) → (if b then Some e else r) ≡ None → (b ≡ false) × (r ≡ None)
not_refused true e r h = absurd (true≢false (ap is_some h))
not_refused false e r h = (refl, h)

none : {X : Type 0} (v : Option X) → is_some v ≡ false → v ≡ None
none None h = refl
none (Some x) h = absurd (true≢false h)

few_more : (n : ℕ) → nat_le 4 n ≡ false → nat_le (n + 1) 4 ≡ true
few_more n h = grind arith

pub programs_push : (o : State) (name : List ℕ) → ArePrograms o.of o.programs → is_name name ≡ true → program_refusal o name ≡ None → ArePrograms o.of (o.programs ++ name ∷ [])
programs_push o name are word e =
    let (polytope, rest) = not_refused (not (is_polytope o.of)) _ _ e in
    let (free, after) = not_refused (is_some (place_from 0 name o.programs)) _ _ rest in
    let (few, last) = not_refused (nat_le most_programs (length o.programs)) _ _ after in
    record {
      few = ap (λ n. nat_le n 4) (one_more o.programs name) ∙ few_more (length o.programs) few;
      words = list_all-append is_name o.programs (name ∷ []) ∙ ap (λ t. t && (is_name name && true)) are.words ∙ ap (λ t. t && true) word;
      different = different_push 0 o.programs name are.different (none (place_from 0 name o.programs) free);
      polytope = λ h. not-false (is_polytope o.of) polytope;
    }

pub formed_program : (o : State) (name : List ℕ) → IsFormed o → is_name name ≡ true → program_refusal o name ≡ None → IsFormed (with_program o name)
formed_program o name f word e = record {
  each = λ h i. subst (λ k. IsFormedIn o.of (cols_of o.held) k h) (sym (one_more o.programs name)) (still_formed o.of (cols_of o.held) (length o.programs) h (f.each h i));
  once = f.once;
  backed = f.backed;
  numbered = f.numbered;
  programs = programs_push o name f.programs word e;
  dimension = f.dimension;
  sites = f.sites;
}

map_push : {A B : Type 0} (f : A → B) (xs : List A) (x : A) → map f (xs ++ x ∷ []) ≡ map f xs ++ f x ∷ []
map_push f [] x = refl
map_push f (y ∷ ys) x = ap (λ t. f y ∷ t) (map_push f ys x)

-- the same, of the code's lists
pub formed_named : {S : Type 0} (o : State) (f : S → List ℕ) (xs ys : List S) (x : S) → o.programs ≡ map f xs → ys ≡ xs ++ x ∷ [] → IsFormed o → is_name (f x) ≡ true → program_refusal o (f x) ≡ None → IsFormed (record o { programs = map f ys })
formed_named o f xs ys x is e formed word free =
    let same : map f ys ≡ o.programs ++ f x ∷ [] = ap (λ t. map f t) e ∙ map_push f xs x ∙ ap (λ t. t ++ f x ∷ []) (sym is) in
    subst (λ z. IsFormed (record o { programs = z })) (sym same) (formed_program o (f x) formed word free)
