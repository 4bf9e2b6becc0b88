-- Rising lists of indices are in form.
use Rattle.pm_vector.proofs.Lists.{Among, among_All, here, there}
use Rattle.pm_geom.specs.Graphs.{IsAscending}
use Rattle.pm_types.specs.Forms.{are_indices, is_sets_form}
use Rattle.std.proofs.Common.{arith, leb, ltb, refl, suc}
use Rattle.std.proofs.lemmas.Bool.{and_from, le-leb, lt-ltb}
use Rattle.std.proofs.lemmas.List.Elements.{All-head, All-tail}
use Rattle.std.specs.List.{All, AllPairs, list_all}
use Rattle.std.specs.Prelude.{List, [], length, true, ℕ, ◌&&◌, ◌<◌, ◌∷◌, ◌≡◌, ◌≤◌}
use Rattle.pm_limits.specs.Limits.{most_rows}

-- from low on, below n and so below m
rising_indices : (m n low : ℕ) (set : List ℕ) → n ≤ m → All (λ j. low ≤ j) set → All (λ j. j < n) set → AllPairs (λ i j. i < j) set → are_indices m low set ≡ true
rising_indices m n low [] l above below rises = refl
rising_indices m n low (j ∷ set) l above below rises =
    let a : low ≤ j = All-head (λ i. low ≤ i) j set above in
    let b : j < n = All-head (λ i. i < n) j set below in
    and_from (leb low j && ltb j m) (are_indices m (suc j) set) (and_from (leb low j) (ltb j m) (le-leb low j a) (lt-ltb j m (omega arith)))
    (rising_indices m n (suc j) set l (λ i d k. rises 0 (suc i) d (omega arith) (omega arith)) (All-tail (λ i. i < n) j set below) (λ i k d p q. rises (suc i) (suc k) d (omega arith) (omega arith)))

pub ascending_indices : (m n : ℕ) (set : List ℕ) → n ≤ m → IsAscending n set → are_indices m 0 set ≡ true
ascending_indices m n set l h = rising_indices m n 0 set l (λ i d k. omega arith) h.0 h.1

pub ascending_lists : (m n : ℕ) (sets : List (List ℕ)) → n ≤ m → ((set : List ℕ) → Among set sets → IsAscending n set) → list_all (are_indices m 0) sets ≡ true
ascending_lists m n [] l h = refl
ascending_lists m n (set ∷ sets) l h = and_from (are_indices m 0 set) (list_all (are_indices m 0) sets) (ascending_indices m n set l (h set here)) (ascending_lists m n sets l (λ s i. h s (there i)))

-- few such lists are a value of sets
pub ascending_sets : (n : ℕ) (sets : List (List ℕ)) → length sets ≤ most_rows → n ≤ most_rows → All (IsAscending n) sets → is_sets_form sets n ≡ true
ascending_sets n sets few small h =
    and_from (leb (length sets) most_rows && leb n most_rows) (list_all (are_indices n 0) sets) (and_from (leb (length sets) most_rows) (leb n most_rows) (le-leb (length sets) most_rows few) (le-leb n most_rows small))
    (ascending_lists n n sets (omega arith) (λ s i. among_All (IsAscending n) i h))
