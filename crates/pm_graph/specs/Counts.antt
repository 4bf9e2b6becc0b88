-- Counts of faces, found by rows of bits, and as a matrix.
use Rattle.pm_vector.specs.Numbers.{Ratio}
use Rattle.pm_fraction.specs.Fractions.{ratio_of}
use Rattle.pm_bits.specs.Sets.{has}
use Rattle.pm_geom.specs.FaceCounts.{f2_of, inclusion_count, inner}
use Rattle.pm_graph.specs.Slices.{ranks_of, rows_of}
use Rattle.pm_fraction.specs.Matrices.{FractionMatrix}
use Rattle.std.specs.Global.{Vec}
use Rattle.std.specs.List.{All, count_by, list_all, range_with_len, slice_index_or, sum_by}
use Rattle.std.specs.Prelude.{ℕ, ◌+◌, ◌<◌, ◌^◌, ◌≡◌, Bool, List, [], cond, length, map, nat_lt}
use lib.IntN.{pos}

-- the row has each place below its length whose column has each index of the face
abbrev pub IsMeetOfColumns : List (List Bool) → List ℕ → List Bool → Type 0
IsMeetOfColumns columns face row = (x : ℕ) → x < length row
    → has row x ≡ list_all (λ j. has (slice_index_or columns j []) x) face

-- a whole number as a fraction
abbrev pub whole : ℕ → Ratio
whole n = ratio_of (pos n) (pos 1)

-- the f2-vector as a square matrix of fractions
abbrev pub f2_matrix : List (List (List ℕ)) → FractionMatrix
f2_matrix ranks = record { cols = length (inner ranks); rows = map (map whole) (f2_of ranks) }

-- how many pairs there are of a face of the list and a place below n whose column has each index of the face
abbrev pub place_count : List (List Bool) → ℕ → List (List ℕ) → ℕ
place_count columns n lower =
    sum_by (λ face. count_by (λ x. list_all (λ j. has (slice_index_or columns j []) x) face)
    (range_with_len 0 n)) lower

-- how many pairs there are of a face of the list at i and one of the list at k that includes it, where i is below k;
-- where i is k, how many faces the list has
abbrev pub lower_count : List (List (List ℕ)) → ℕ → ℕ → ℕ
lower_count lists k i =
    cond (nat_lt i k) (inclusion_count (slice_index_or lists i []) (slice_index_or lists k []))
    (length (slice_index_or lists k []))

-- these numbers for i from 0 to k
abbrev pub lower_counts : List (List (List ℕ)) → ℕ → List ℕ
lower_counts lists k = map (lower_count lists k) (range_with_len 0 (k + 1))

-- the entry (i, k) of a symmetric table of which each row k has the entries up to k
abbrev pub mirrored : List (List ℕ) → ℕ → ℕ → ℕ
mirrored rows i k = cond (nat_lt k i) (slice_index_or (slice_index_or rows i []) k 0)
    (slice_index_or (slice_index_or rows k []) i 0)

-- the rows are these numbers for each rank
abbrev pub HaveLowerCounts : List (Vec (Vec ℕ)) → List (List ℕ) → Type 0
HaveLowerCounts ranks rows = rows ≡ map (lower_counts (ranks_of ranks)) (range_with_len 0 (length ranks))

-- each number is below 2^126
abbrev pub AreSmall : List (List ℕ) → Type 0
AreSmall rows = All (All (λ n. n < 2 ^ 126)) rows

-- the row at i of the symmetric table, as fractions
abbrev pub mirrored_row : List (Vec ℕ) → ℕ → List Ratio
mirrored_row rows i = map (λ k. whole (mirrored (rows_of rows) i k)) (range_with_len 0 (length rows))

-- each row k has the entries up to k, all below 2^126
pub record IsTriangle (rows : List (List ℕ)) : Type 0 where
  pub lengths : (k : ℕ) → k < length rows → length (slice_index_or rows k []) ≡ k + 1
  pub small : All (All (λ n. n < 2 ^ 126)) rows
