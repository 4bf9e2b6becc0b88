-- Evidence that the elimination of a list of rows leaves the range: one step of it, which anyone can check.
use Rattle.pm_vector.specs.Rows.{Row, entry}
use Rattle.pm_vector.specs.Bases.{IsEchelonBasis, SameSpan, column, row_at}
use Rattle.pm_vector.specs.Rounds.{IsWideOnSome}
use Rattle.pm_vector.specs.Steps.{IsPivotRow, ReducedBy, StepIsWide}
use Rattle.pm_vector.specs.EliminationSteps.{EliminationStep}
use Rattle.pm_vector.specs.declared.evidence.ElimList.{ElimList}
use Rattle.pm_vector.specs.declared.evidence.ElimList.TheVariants.{Extended, ExtendedWithout, Rows, Without}
use Rattle.std.specs.Prelude.{List, length, map, remove, replicate, slice_set, take, ℕ, ◌++◌, ◌+◌, ◌<◌, ◌≡◌, ◌⊎◌}
use lib.IntN.{pos}

-- B is the echelon basis of the span of X, with pivot columns P
pub record IsBasisOf (n : ℕ) (X B : List Row) (P : List ℕ) : Type 0 where
  pub echelon : IsEchelonBasis n B P
  pub span : SameSpan B X

-- the row of n entries that is 1 at i and 0 elsewhere
abbrev pub unit : ℕ → ℕ → Row
unit n i = slice_set (replicate n (pos 0)) i (pos 1)

-- the entries of the rows of B in the column i
abbrev pub column_of : List Row → ℕ → Row
column_of B i = map (λ b. entry b i) B

-- X has n rows; the one at i is the entries of B in the column i, and then the unit row i
pub record IsExtended (n : ℕ) (B X : List Row) : Type 0 where
  pub as_many : length X ≡ n
  pub rows : (i : ℕ) → i < n → row_at X i ≡ column_of B i ++ unit n i

-- X is such a list for the echelon basis of the rows, and each row of X has m entries
pub record IsExtendedListOf (n : ℕ) (rows : List Row) (m : ℕ) (X : List Row) : Type 0 where
  pub basis : List Row
  pub pivots : List ℕ
  pub is_basis : IsBasisOf n rows basis pivots
  pub extended : IsExtended n basis X
  pub cols : m ≡ length basis + n

-- X, of rows with m entries, is the list that `list` names: the rows as they stand, their extended list, or the same
-- of the rows without the one at a place
abbrev pub Lists : ℕ → List Row → ElimList → ℕ → List Row → Type 0
Lists n rows Rows m X = (m ≡ n) × (X ≡ rows)
Lists n rows Extended m X = IsExtendedListOf n rows m X
Lists n rows (Without j) m X = (j < length rows) × (m ≡ n) × (X ≡ remove rows j)
Lists n rows (ExtendedWithout j) m X = (j < length rows) × IsExtendedListOf n (remove rows j) m X

-- the next row, reduced by the basis rows before the place `by`, is `part`, and its step by the row at that place
-- leaves the range in the column i
pub record IsWideOnNext (B : List Row) (P : List ℕ) (next part : Row) (by i : ℕ) : Type 0 where
  pub within : by < length B
  pub reduced : ReducedBy (take by B) (take by P) next part
  pub wide : StepIsWide part (row_at B by) (column P by) i

-- `by` is the number of basis rows, `part` is one of them, and its step by the next row, which is reduced by all of
-- them and made primitive with a positive pivot, leaves the range in the column i
pub record IsWideOnOlder (B : List Row) (P : List ℕ) (next part : Row) (by i : ℕ) : Type 0 where
  pub rest : Row
  pub new_column : ℕ
  pub new : Row
  pub reduced : ReducedBy B P next rest
  pub pivot : IsPivotRow rest new_column new
  pub wide : IsWideOnSome B new new_column part by i

-- one of these two: a step of the round that takes the next row leaves the range
abbrev pub IsWideRound : List Row → List ℕ → Row → Row → ℕ → ℕ → Type 0
IsWideRound B P next part by i = IsWideOnNext B P next part by i ⊎ IsWideOnOlder B P next part by i

-- `basis` is the echelon basis of the first `front` rows of X, and with the row after them one of these two steps
-- leaves the range
pub record IsWideStep (n : ℕ) (X : List Row) (e : EliminationStep) : Type 0 where
  pub pivots : List ℕ
  pub within : e.front < length X
  pub basis : IsBasisOf n (take e.front X) e.basis pivots
  pub step : IsWideRound e.basis pivots (row_at X e.front) e.part e.by e.column

-- e shows such a step of the list that it names
pub record IsEvidence (n : ℕ) (rows : List Row) (e : EliminationStep) : Type 0 where
  pub cols : ℕ
  pub listed : List Row
  pub list : Lists n rows e.list cols listed
  pub step : IsWideStep cols listed e

-- no evidence names that list
abbrev pub NoEvidence : ℕ → List Row → ElimList → Type 0
NoEvidence n rows list = (e : EliminationStep) → e.list ≡ list → IsEvidence n rows e → ⊥
