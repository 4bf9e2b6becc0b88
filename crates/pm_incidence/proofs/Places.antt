-- The places of the vertices on a facet: they are found, ascend, and lie below the count of the vertices.
use Rattle.pm_vector.proofs.Lists.{Among, Contains_among, among_Contains, here, there}
use Rattle.pm_vector.specs.Rows.{Row, dot}
use Rattle.pm_incidence.specs.Incidence.{incidence, places_from}
use Rattle.pm_geom.specs.Faces.{ray}
use Rattle.pm_types.specs.Forms.{are_indices, is_sets_form}
use Rattle.pm_types.specs.Right.{IsIncidence}
use Rattle.std.proofs.Common.{add-one, add-zero, ap, append_assoc, arith, cond, drop, drop-cons, eqb, false, get_or, map, inl, inr, refl, subst, suc, sym, true, zero, ◌+◌, ◌++◌, ◌<◌, ◌∙◌, ◌≡◌, ◌≤◌, ◌⊎◌}
use Rattle.std.proofs.lemmas.Bool.{cases_Bool, eq-eqb, eqb-true}
use Rattle.std.proofs.lemmas.List.{map-append}
use Rattle.std.proofs.lemmas.Int.{ints}
use Rattle.std.specs.List.{Contains, list_all}
use Rattle.std.specs.Prelude.{Bool, List, [], length, nat_le, nat_lt, unsigned_abs, ℕ, ◌↔◌, ◌∷◌}
use lib.IntN.{pos, ℤ}
use Rattle.pm_limits.specs.Limits.{most_rows}

zero_from_test : (z : ℤ) → eqb (unsigned_abs z) 0 ≡ true → z ≡ pos 0
zero_from_test z e = let h = eqb-true (unsigned_abs z) 0 e in omega (arith, ints)

abbrev IsPlace : ℕ → Row → List Row → ℕ → Type 0
IsPlace k f V j = (i : ℕ) × (j ≡ k + i) × (i < length V) × (dot f (ray V i) ≡ pos 0)

first_or_later : {x y : ℕ} {xs : List ℕ} → Among x (y ∷ xs) → (x ≡ y) ⊎ Among x xs
first_or_later here = inl refl
first_or_later (there i) = inr i

later_place : (k : ℕ) (f v : Row) (V : List Row) (j : ℕ) → IsPlace (suc k) f V j → IsPlace k f (v ∷ V) j
later_place k f v V j (i, e, l, z) = (suc i, omega arith, omega arith, z)

among_places : (k : ℕ) (f : Row) (V : List Row) (j : ℕ) → Among j (places_from k f V) → IsPlace k f V j
among_places k f [] j a = elim a [ ]
among_places k f (v ∷ V) j a = elim (cases_Bool (eqb (unsigned_abs (dot f v)) 0)) [
  | inl e ↦ elim (first_or_later (rw e at a)) [
    | inl same ↦ (0, same ∙ sym (add-zero k), omega arith, zero_from_test (dot f v) e)
    | inr later ↦ later_place k f v V j (among_places (suc k) f V j later)
  ]
  | inr e ↦ later_place k f v V j (among_places (suc k) f V j (rw e at a))
]

place_among : (k : ℕ) (f : Row) (V : List Row) (i j : ℕ) → j ≡ k + i → i < length V → dot f (ray V i) ≡ pos 0 → Among j (places_from k f V)
place_among k f [] i j e l z = absurd (omega arith)
place_among k f (v ∷ V) zero j e l z =
    let same : j ≡ k = omega arith in
    let test : eqb (unsigned_abs (dot f v)) 0 ≡ true = eq-eqb (unsigned_abs (dot f v)) 0 (ap unsigned_abs z) in
    rw (test, same) here
place_among k f (v ∷ V) (suc i) j e l z =
    let later = place_among (suc k) f V i j (omega arith) (omega arith) z in
    elim (cases_Bool (eqb (unsigned_abs (dot f v)) 0)) [
      | inl t ↦ rw t (there later)
      | inr t ↦ rw t later
    ]

places_right : (f : Row) (V : List Row) (j : ℕ) → Contains (places_from 0 f V) j ↔ ((j < length V) × (dot f (ray V j) ≡ pos 0))
places_right f V j = (
  λ c.
      let p = among_places 0 f V j (among_Contains (places_from 0 f V) c) in
      let e : p.0 ≡ j = let h = p.1 in omega arith in
      subst (λ i. (i < length V) × (dot f (ray V i) ≡ pos 0)) e (p.2, p.3),
  λ h. Contains_among (place_among 0 f V j j (omega arith) h.0 h.1),
)

pub incidence_is : (F V : List Row) → IsIncidence F V (incidence F V)
incidence_is [] V = tt
incidence_is (f ∷ F) V = (places_right f V, incidence_is F V)

-- ---- the form
index_next : (n low j : ℕ) (js : List ℕ) → low ≤ j → j < n → are_indices n (suc j) js ≡ true → are_indices n low (j ∷ js) ≡ true
index_next n low j js l m h = rw (le-test, lt-test, h) refl
  where
    le-test : nat_le low j ≡ true
    le-test = grind arith

    lt-test : nat_lt j n ≡ true
    lt-test = grind arith

indices : (n low j : ℕ) (f : Row) (V : List Row) → low ≤ j → n ≡ j + length V → are_indices n low (places_from j f V) ≡ true
indices n low j f [] l e = refl
indices n low j f (v ∷ V) l e = elim (cases_Bool (eqb (unsigned_abs (dot f v)) 0)) [
  | inl t ↦ rw t (index_next n low j (places_from (suc j) f V) l (omega arith) (indices n (suc j) (suc j) f V (omega arith) (omega arith)))
  | inr t ↦ rw t (indices n low (suc j) f V (omega arith) (omega arith))
]

all_indices : (F V : List Row) → list_all (are_indices (length V) 0) (incidence F V) ≡ true
all_indices [] V = refl
all_indices (f ∷ F) V = rw (indices (length V) 0 0 f V (omega arith) (omega arith), all_indices F V) refl

length_incidence : (F V : List Row) → length (incidence F V) ≡ length F
length_incidence [] V = refl
length_incidence (f ∷ F) V = ap suc (length_incidence F V)

pub incidence_form : (F V : List Row) → length F ≤ most_rows → length V ≤ most_rows → is_sets_form (incidence F V) (length V) ≡ true
incidence_form F V h k = rw (rows, cols, all_indices F V) refl
  where
    rows : nat_le (length (incidence F V)) most_rows ≡ true
    rows = rw (length_incidence F V) (grind arith)

    cols : nat_le (length V) most_rows ≡ true
    cols = grind arith

-- ---- one vertex on, one facet on
rest_at : (V : List Row) (j : ℕ) (v : Row) → j < length V → v ≡ get_or V j v → drop j V ≡ v ∷ drop (suc j) V
rest_at V j v within is = drop-cons V j v within ∙ ap (λ y. y ∷ drop (suc j) V) (sym is)

pub places_next : (f : Row) (V : List Row) (j : ℕ) (v : Row) (all found more : List ℕ) (t : Bool) → j < length V → v ≡ get_or V j v → t ≡ eqb (unsigned_abs (dot f v)) 0 → all ≡ found ++ places_from j f (drop j V)
    → more ≡ cond t (found ++ j ∷ []) found → all ≡ more ++ places_from (j + 1) f (drop (j + 1) V)
places_next f V j v all found more t within is test h e =
    let rest = places_from (suc j) f (drop (suc j) V) in
    rw (add-one, e) (h ∙ ap (λ vs. found ++ places_from j f vs) (rest_at V j v within is) ∙ ap (λ z. found ++ cond z (j ∷ rest) rest) (sym test) ∙ joined t rest)
  where
    joined : (t : Bool) (rest : List ℕ) → found ++ cond t (j ∷ rest) rest ≡ cond t (found ++ j ∷ []) found ++ rest
    joined true rest = sym (append_assoc found (j ∷ []) rest)
    joined false rest = refl

pub incidence_next : {X : Type 0} (items : X → List ℕ) (F V : List Row) (i : ℕ) (f : Row) (rows more : List X) (x : X) → i < length F → f ≡ get_or F i f → incidence F V ≡ map items rows ++ incidence (drop i F) V → more ≡ rows ++ x ∷ [] → items x ≡ places_from 0 f V
    → incidence F V ≡ map items more ++ incidence (drop (i + 1) F) V
incidence_next items F V i f rows more x within is h e found =
    let rest = incidence (drop (suc i) F) V in
    rw (add-one, e)
    (h ∙ ap (λ G. map items rows ++ incidence G V) (rest_at F i f within is) ∙ ap (λ r. map items rows ++ r ∷ rest) (sym found) ∙ sym (append_assoc (map items rows) (items x ∷ []) rest)
    ∙ ap (λ z. z ++ rest) (sym (map-append items rows (x ∷ []))))
