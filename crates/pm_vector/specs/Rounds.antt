-- One round of an elimination: a further row joins the basis.
use Rattle.pm_vector.specs.Divisors.{IsPrimitive}
use Rattle.pm_vector.specs.Rows.{Row, entry}
use Rattle.pm_vector.specs.Bases.{column, row_at}
use Rattle.pm_vector.specs.Steps.{IsReducedOnce, StepIsWide, StepStays}
use Rattle.std.specs.Prelude.{List, length, ℕ, ◌<◌, ◌≡◌}
use lib.IntN.{pos}
use lib.Signed.{◌<ℤ◌}

-- the step of each row of B by x in the column c stays in the range
abbrev pub AllStay : List Row → Row → ℕ → Type 0
AllStay B x c = (i : ℕ) → i < length B → StepStays (row_at B i) x c

-- `by` is the number of rows of B, `part` is one of them, and its step by x in the column c leaves the range in the
-- column i
pub record IsWideOnSome (B : List Row) (x : Row) (c : ℕ) (part : Row) (by i : ℕ) : Type 0 where
  pub last : by ≡ length B
  pub place : ℕ
  pub within : place < length B
  pub older : part ≡ row_at B place
  pub wide : StepIsWide part x c i

-- each row of B, reduced by x in the column c where it is not 0, is the row of B' at its place
pub record AllReducedOnce (B : List Row) (x : Row) (c : ℕ) (B' : List Row) : Type 0 where
  pub as_many : length B' ≡ length B
  pub rows : (i : ℕ) → i < length B → IsReducedOnce (row_at B i) x c (row_at B' i)

-- x is primitive, positive in the column c, 0 before it, and 0 in the pivot columns of B
pub record IsNewRow (n : ℕ) (B : List Row) (P : List ℕ) (x : Row) (c : ℕ) : Type 0 where
  pub cols : length x ≡ n
  pub primitive : IsPrimitive x
  pub positive : pos 0 <ℤ entry x c
  pub before : (d : ℕ) → d < c → entry x d ≡ pos 0
  pub reduced : (i : ℕ) → i < length B → entry x (column P i) ≡ pos 0
