-- Bases of the span of rows (Hoffman and Kunze, Linear Algebra, sections 1.4 and 2.3 to 2.5), with primitive whole
-- rows.
use Rattle.std.specs.Prelude.{ℕ, ◌≡◌, ◌<◌, ◌↔◌, List, [], length}
use Rattle.std.specs.List.{slice_index_or}
use Rattle.pm_vector.specs.Rows.{Row, entry, HasCols}
use Rattle.pm_vector.specs.Cones.{InSpan, IsIndependent}
use Rattle.pm_vector.specs.Divisors.{IsPrimitive}
use lib.IntN.{pos}
use lib.Signed.{◌<ℤ◌}

-- the row at place i
abbrev pub row_at : List Row → ℕ → Row
row_at R i = slice_index_or R i []

-- the pivot column of the row at place i
abbrev pub column : List ℕ → ℕ → ℕ
column P i = slice_index_or P i 0

-- the rows R and the rows R' have one span
pub record SameSpan (R R' : List Row) : Type 0 where
  pub same : (x : Row) → InSpan R x ↔ InSpan R' x

-- each row of R is primitive, and positive at its own column of P, where the other rows are 0
pub record IsReducedBasis (n : ℕ) (R : List Row) (P : List ℕ) : Type 0 where
  pub cols : HasCols n R
  pub as_many : length P ≡ length R
  pub positive : (i : ℕ) → i < length R → pos 0 <ℤ entry (row_at R i) (column P i)
  pub reduced : (i j : ℕ) → i < length R → j < length R → ¬ (i ≡ j) → entry (row_at R i) (column P j) ≡ pos 0
  pub primitive : (i : ℕ) → i < length R → IsPrimitive (row_at R i)

-- R is a reduced basis whose columns ascend, and each row is 0 before its own
pub record IsEchelonBasis (n : ℕ) (R : List Row) (P : List ℕ) : Type 0 where
  pub basis : IsReducedBasis n R P
  pub open basis use *
  pub ascending : (i j : ℕ) → i < j → j < length R → column P i < column P j
  pub before : (i c : ℕ) → i < length R → c < column P i → entry (row_at R i) c ≡ pos 0

-- some k independent rows have the span of X
pub record IsRank (X : List Row) (k : ℕ) : Type 0 where
  pub basis : List Row
  pub independent : IsIndependent basis
  pub span : SameSpan basis X
  pub as_many : length basis ≡ k
