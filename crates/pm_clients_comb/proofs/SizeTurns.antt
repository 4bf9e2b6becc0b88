-- Whether a set has a place, by halving; the turns of the loops that count.
use Rattle.pm_relations.proofs.Sizes.{next}
use Rattle.pm_relations.specs.Sizes.{has_place, holding, place_sizes, set_sizes}
use Rattle.pm_types.specs.Forms.{are_indices, is_sets_form}
use Rattle.std.proofs.Common.{ap, arith, drop, eqb, false, get_or, inl, inr, leb, nat_cmp, refl, subst, sym, to_z, true, w64, ◌&&◌, ◌∙◌}
use Rattle.std.proofs.lemmas.List.Sorted.{searched}
use Rattle.std.specs.List.Sorted.{IsBinarySearchResult}
use Rattle.std.specs.Result.{is_ok}
use Rattle.std.proofs.lemmas.Bool.{and_parts, cases_lt, eq-eqb, ne_eqb}
use Rattle.std.proofs.lemmas.Int.{to_z_pos}
use Rattle.std.proofs.lemmas.List.{take_all}
use Rattle.std.proofs.lemmas.List.FromFn.{map-range_with_len_more}
use Rattle.std.proofs.lemmas.Simd.{map-map}
use Rattle.std.specs.List.{list_all}
use Rattle.std.specs.Prelude.{Bool, Err, Ok, Result, List, [], if◌then◌else◌, length, map, suc, take, zero, ℕ, ◌+◌, ◌++◌, ◌∷◌, ◌≡◌, ◌≤◌, ◌<◌, ◌||◌}
use lib.IntN.{pos, ℤ}
use Rattle.pm_limits.specs.Limits.{most_rows}

-- ---- ascending sets
above : (n low : ℕ) (r : List ℕ) → are_indices n low r ≡ true → (i : ℕ) → i < length r → low ≤ get_or r i 0
above n low [] h i l = absurd (omega arith)
above n low (j ∷ r) h zero l = (next n low j r h).above
above n low (j ∷ r) h (suc i) l =
    let x = next n low j r h in
    let a = x.above in
    let b = above n (suc j) r x.rest i (omega arith) in
    omega arith

pub rises : (n low : ℕ) (r : List ℕ) → are_indices n low r ≡ true → (i j : ℕ) → i ≤ j → j < length r → get_or r i 0 ≤ get_or r j 0
rises n low [] h i j l m = absurd (omega arith)
rises n low (k ∷ r) h zero zero l m = omega arith
rises n low (k ∷ r) h zero (suc j) l m =
    let x = next n low k r h in
    let b = above n (suc k) r x.rest j (omega arith) in
    omega arith
rises n low (k ∷ r) h (suc i) zero l m = absurd (omega arith)
rises n low (k ∷ r) h (suc i) (suc j) l m = rises n (suc k) r (next n low k r h).rest i j (omega arith) (omega arith)

pub place_found : (r : List ℕ) (i j : ℕ) → i < length r → get_or r i 0 ≡ j → has_place j r ≡ true
place_found [] i j l e = absurd (omega arith)
place_found (k ∷ r) zero j l e = let t = eq-eqb k j e in rw t refl
place_found (k ∷ r) (suc i) j l e = let t = place_found r i j (omega arith) e in rw t (or_true (eqb k j))
  where
    or_true : (b : Bool) → (b || true) ≡ true
    or_true true = refl
    or_true false = refl

pub place_missing : (r : List ℕ) (j : ℕ) → ((i : ℕ) → i < length r → get_or r i 0 ≡ j → ⊥) → has_place j r ≡ false
place_missing [] j h = refl
place_missing (k ∷ r) j h =
    let t = ne_eqb k j (λ e. h 0 (omega arith) e) in
    let rest = place_missing r j (λ i l e. h (suc i) (omega arith) e) in
    rw (t, rest) refl

pub found_is : (r : List ℕ) (j n : ℕ) → are_indices n 0 r ≡ true → (found : Result ℕ ℕ) (b : Bool) → IsBinarySearchResult (λ y. nat_cmp y j) r found → b ≡ is_ok found → b ≡ has_place j r
found_is r j n asc (Ok i) b h e = let w = searched r j (Ok i) h (λ i k l m. rises n 0 r asc i k l m) in e ∙ sym (place_found r i j w.0 w.1)
found_is r j n asc (Err i) b h e = let w = searched r j (Err i) h (λ i k l m. rises n 0 r asc i k l m) in e ∙ sym (place_missing r j (λ k l same. elim (cases_lt k i) [
  | inl below ↦ let x = w.1 k below in omega arith
  | inr above ↦ let x = w.2 k above l in omega arith
]))

-- ---- one set more
pub set_sizes_are : {X : Type 0} (items : X → List ℕ) (xs : List X) (sizes : List ℤ) (k : ℕ) (rows : List (List ℕ)) → length xs ≤ k → sizes ≡ map (λ x. pos (length (items x))) (take k xs) → map items xs ≡ rows → sizes ≡ set_sizes rows
set_sizes_are items xs sizes k rows l e i = e ∙ ap (map (λ x. pos (length (items x)))) (take_all k xs l) ∙ sym (map-map (λ (r : List ℕ). pos (length r)) items xs) ∙ ap set_sizes i

all_of_map : {X : Type 0} (items : X → List ℕ) (n : ℕ) (xs : List X) (i : ℕ) (x : X) → list_all (are_indices n 0) (map items xs) ≡ true → i < length xs → are_indices n 0 (items (get_or xs i x)) ≡ true
all_of_map items n [] i x h l = absurd (omega arith)
all_of_map items n (y ∷ xs) zero x h l = (and_parts (are_indices n 0 (items y)) (list_all (are_indices n 0) (map items xs)) h).0
all_of_map items n (y ∷ xs) (suc i) x h l = all_of_map items n xs i x (and_parts (are_indices n 0 (items y)) (list_all (are_indices n 0) (map items xs)) h).1 (omega arith)

-- each of the sets ascends
pub set_ascends : {X : Type 0} (items : X → List ℕ) (xs : List X) (rows : List (List ℕ)) (n i : ℕ) (x : X) (r : List ℕ) → map items xs ≡ rows → is_sets_form rows n ≡ true → i < length xs → x ≡ get_or xs i x → r ≡ items x → are_indices n 0 r ≡ true
set_ascends items xs rows n i x r e form l is same =
    let all = (and_parts (leb (length rows) most_rows && leb n most_rows) (list_all (are_indices n 0) rows) form).1 in
    let one = all_of_map items n xs i x (subst (λ rs. list_all (are_indices n 0) rs ≡ true) (sym e) all) l in
    subst (λ s. are_indices n 0 s ≡ true) (sym (same ∙ ap items is)) one

left_over : {X : Type 0} (items : X → List ℕ) (xs : List X) (i : ℕ) (x : X) → i < length xs → x ≡ get_or xs i x → drop i (map items xs) ≡ items x ∷ drop (suc i) (map items xs)
left_over items [] i x l is = absurd (omega arith)
left_over items (y ∷ xs) zero x l is = ap (λ z. items z ∷ map items xs) (sym is)
left_over items (y ∷ xs) (suc i) x l is = left_over items xs i x (omega arith) is

-- one set more is counted
pub next_count : {X : Type 0} (items : X → List ℕ) (xs : List X) (i j count more : ℕ) (x : X) (r : List ℕ) (t : Bool) → i < length xs → x ≡ get_or xs i x → r ≡ items x → t ≡ has_place j r → more ≡ (if t then count + 1 else count)
    → (holding (map items xs) j ≡ count + holding (drop i (map items xs)) j) × (count ≤ i) → (holding (map items xs) j ≡ more + holding (drop (i + 1) (map items xs)) j) × (more ≤ i + 1)
next_count items xs i j count more x r t l is same test e h =
    let here = ap (λ rs. holding rs j) (left_over items xs i x l is) in
    let has : has_place j (items x) ≡ t = sym (test ∙ ap (has_place j) same) in
    let one = ap (λ b. (if b then 1 else 0) + holding (drop (suc i) (map items xs)) j) has in
    let next : suc i ≡ i + 1 = omega arith in
    subst (λ k. (holding (map items xs) j ≡ more + holding (drop k (map items xs)) j) × (more ≤ k)) next (by t e (h.0 ∙ ap (λ m. count + m) (here ∙ one)) h.1)
  where
    by : (t : Bool) → more ≡ (if t then count + 1 else count) → holding (map items xs) j ≡ count + ((if t then 1 else 0) + holding (drop (suc i) (map items xs)) j) → count ≤ i → (holding (map items xs) j ≡ more + holding (drop (suc i) (map items xs)) j) × (more ≤ suc i)
    by true e h k = (omega arith, omega arith)
    by false e h k = (omega arith, omega arith)

-- one place more
pub next_size : (rows : List (List ℕ)) (place k : ℕ) (sizes more : List ℤ) → sizes ≡ place_sizes rows place → k ≡ holding rows place → k ≤ most_rows → more ≡ sizes ++ to_z w64 k ∷ [] → more ≡ place_sizes rows (place + 1)
next_size rows place k sizes more e is few m =
    m ∙ ap (λ zs. zs ++ to_z w64 k ∷ []) e
    ∙ ap (λ z. place_sizes rows place ++ z ∷ []) (to_z_pos w64 k (omega arith) ∙ ap pos is)
    ∙ sym (map-range_with_len_more (λ j. pos (holding rows j)) 0 place place (omega arith))
