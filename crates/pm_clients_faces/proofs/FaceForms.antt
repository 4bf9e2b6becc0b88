-- The forms of lattices, and of their numbers of faces.
use Rattle.pm_vector.proofs.Lists.{Among, Contains_among, here, there}
use Rattle.pm_clients_faces.specs.Numbers.{f_numbers, has_few_ranks}
use Rattle.pm_geom.specs.FaceCounts.{at_rank, f_of, inner}
use Rattle.pm_geom.specs.Graphs.{IsAscending}
use Rattle.pm_geom.specs.Meets.{AreMeetsByRank, IsSmallLattice}
use Rattle.pm_types.proofs.Indices.{ascending_lists}
use Rattle.pm_types.specs.Forms.{are_indices, has_64_bits, is_counts_form, is_lattice_form, is_sets_form}
use Rattle.std.proofs.Common.{arith, leb, length-take-le, ltb, refl, suc}
use Rattle.std.proofs.lemmas.Bool.{and_from, and_parts, le-leb, leb-true, lt-ltb, ltb-true}
use Rattle.std.proofs.lemmas.List.{length-map}
use Rattle.std.proofs.lemmas.List.Elements.{All-cons, All-drop, All-head, All-nil, All-tail, All-take}
use Rattle.std.proofs.lemmas.List.Sums.{get_or-le-sum_by}
use Rattle.std.specs.List.{All, AllPairs, Contains, list_all, sum_by}
use Rattle.std.specs.Prelude.{Bool, List, [], drop, false, if◌then◌else◌, length, map, nat_le, true, ℕ, ◌&&◌, ◌-◌, ◌<◌, ◌^◌, ◌∷◌, ◌≡◌, ◌≤◌, ◌+◌}
use lib.IntN.{pos}
use Rattle.pm_limits.specs.Limits.{most_columns, most_dimensions, most_faces, most_indices, most_places, most_rows}

-- ---- sets of indices
index_below : (n low : ℕ) (set : List ℕ) → are_indices n low set ≡ true → All (λ j. j < n) set
index_below n low [] h = All-nil (λ j. j < n)
index_below n low (j ∷ set) h =
    let p = and_parts (leb low j && ltb j n) (are_indices n (suc j) set) h in
    let q = and_parts (leb low j) (ltb j n) p.0 in
    All-cons (λ i. i < n) j set (ltb-true j n q.1) (index_below n (suc j) set p.1)

all_below : (n : ℕ) (rows : List (List ℕ)) → list_all (are_indices n 0) rows ≡ true → All (λ row. All (λ j. j < n) row) rows
all_below n [] h = All-nil (λ row. All (λ j. j < n) row)
all_below n (row ∷ rows) h =
    let p = and_parts (are_indices n 0 row) (list_all (are_indices n 0) rows) h in
    All-cons (λ r. All (λ j. j < n) r) row rows (index_below n 0 row p.0) (all_below n rows p.1)

pub sets_below : (rows : List (List ℕ)) (n : ℕ) → is_sets_form rows n ≡ true → All (λ row. All (λ j. j < n) row) rows
sets_below rows n form = all_below n rows (and_parts (leb (length rows) most_rows && leb n most_rows) (list_all (are_indices n 0) rows) form).1

few_places : (rows : List (List ℕ)) (n : ℕ) → is_sets_form rows n ≡ true → n ≤ most_rows
few_places rows n form =
    let p = and_parts (leb (length rows) most_rows && leb n most_rows) (list_all (are_indices n 0) rows) form in
    leb-true n most_rows (and_parts (leb (length rows) most_rows) (leb n most_rows) p.0).1

-- ---- lattices
ranks_formed : (m n : ℕ) (ranks : List (List (List ℕ))) → n ≤ m → ((k : ℕ) (set : List ℕ) → Contains (at_rank ranks k) set → IsAscending n set) → list_all (list_all (are_indices m 0)) ranks ≡ true
ranks_formed m n [] l h = refl
ranks_formed m n (faces ∷ ranks) l h =
    and_from (list_all (are_indices m 0) faces) (list_all (list_all (are_indices m 0)) ranks) (ascending_lists m n faces l (λ set i. h 0 set (Contains_among i))) (ranks_formed m n ranks l (λ k set c. h (suc k) set c))

pub lattice_formed : (rows : List (List ℕ)) (n : ℕ) (sets : List (ℕ → Bool)) (ranks : List (List (List ℕ))) → is_sets_form rows n ≡ true → AreMeetsByRank n sets ranks → IsSmallLattice ranks → is_lattice_form ranks ≡ true
lattice_formed rows n sets ranks form meets small =
    and_from (nat_le (sum_by length ranks) most_faces && nat_le (sum_by (sum_by length) ranks) most_places) (list_all (list_all (are_indices most_indices 0)) ranks)
    (and_from (nat_le (sum_by length ranks) most_faces) (nat_le (sum_by (sum_by length) ranks) most_places) (le-leb (sum_by length ranks) most_faces small.0) (le-leb (sum_by (sum_by length) ranks) most_places small.1))
    (ranks_formed most_rows n ranks (few_places rows n form) (λ k set c. (meets.each k set c).0))

-- ---- how many faces there are
faces_few : (ranks : List (List (List ℕ))) → is_lattice_form ranks ≡ true → sum_by length ranks ≤ most_faces
faces_few ranks form =
    let p = and_parts (nat_le (sum_by length ranks) most_faces && nat_le (sum_by (sum_by length) ranks) most_places) (list_all (list_all (are_indices most_indices 0)) ranks) form in
    leb-true (sum_by length ranks) most_faces (and_parts (nat_le (sum_by length ranks) most_faces) (nat_le (sum_by (sum_by length) ranks) most_places) p.0).0

pub inner_sizes : (ranks : List (List (List ℕ))) → is_lattice_form ranks ≡ true → All (λ faces. length faces ≤ most_faces) (inner ranks)
inner_sizes ranks form =
    All-take (λ faces. length faces ≤ most_faces) (length ranks - 2) (drop 1 ranks)
    (All-drop (λ faces. length faces ≤ most_faces) 1 ranks (λ i d below. let one = get_or-le-sum_by length ranks i d below in let all = faces_few ranks form in omega arith))

inner_count : (ranks : List (List (List ℕ))) → length (inner ranks) ≡ length ranks - 2
inner_count [] = refl
inner_count (faces ∷ ranks) = length-take-le (length (faces ∷ ranks) - 2) ranks (omega arith)

pub few_inner : (ranks : List (List (List ℕ))) → has_few_ranks ranks ≡ true → length (inner ranks) ≤ most_dimensions
few_inner ranks few = let l = leb-true (length ranks) (most_columns + 1) few in let count = inner_count ranks in omega arith

size_bits : (lists : List (List (List ℕ))) → All (λ faces. length faces ≤ most_faces) lists → list_all has_64_bits (map pos (map length lists)) ≡ true
size_bits [] h = refl
size_bits (faces ∷ lists) h =
    let l = All-head (λ fs. length fs ≤ most_faces) faces lists h in
    and_from (has_64_bits (pos (length faces))) (list_all has_64_bits (map pos (map length lists))) (lt-ltb (length faces) (2 ^ 63) (omega arith)) (size_bits lists (All-tail (λ fs. length fs ≤ most_faces) faces lists h))

pub f_numbers_form : (ranks : List (List (List ℕ))) → is_lattice_form ranks ≡ true → is_counts_form (f_numbers ranks) ≡ true
f_numbers_form ranks form = by (has_few_ranks ranks) refl
  where
    by : (b : Bool) → has_few_ranks ranks ≡ b → is_counts_form (if b then map pos (f_of ranks) else []) ≡ true
    by true few =
        let count = few_inner ranks few in
        let as_many = length-map (f_of ranks) pos in
        let sizes = length-map (inner ranks) length in
        and_from (nat_le (length (map pos (f_of ranks))) most_rows) (list_all has_64_bits (map pos (f_of ranks))) (le-leb (length (map pos (f_of ranks))) most_rows (omega arith)) (size_bits (inner ranks) (inner_sizes ranks form))
    by false many = refl
