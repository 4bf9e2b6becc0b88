-- Matrices of fractions.
use Rattle.pm_vector.specs.Numbers.{InRangeRatio, IsReduced, Ratio}
use Rattle.pm_vector.specs.Rows.{ratio_at}
use Rattle.std.specs.List.{All, slice_index_or}
use Rattle.std.specs.Prelude.{List, [], length, ℕ, ◌<◌, ◌≡◌}

-- a matrix: how many columns it has, and its rows
pub record FractionMatrix : Type 0 where
  pub cols : ℕ
  pub rows : List (List Ratio)

-- f is in lowest terms, and both parts are in the range
pub record IsFraction (f : Ratio) : Type 0 where
  pub reduced : IsReduced f
  pub in_range : InRangeRatio f

-- each row has an entry for each column, and each entry is a fraction
pub record IsMatrix (a : FractionMatrix) : Type 0 where
  pub shape : All (λ r. length r ≡ a.cols) a.rows
  pub entries : All (All IsFraction) a.rows

-- the entry in row i and column j, and 0/1 outside
abbrev pub at : FractionMatrix → ℕ → ℕ → Ratio
at a i j = ratio_at (slice_index_or a.rows i []) j

-- the rows of t are the columns of a
pub record IsTransposeOf (a t : FractionMatrix) : Type 0 where
  pub cols : t.cols ≡ length a.rows
  pub rows : length t.rows ≡ a.cols
  pub entries : (i j : ℕ) → i < length a.rows → j < a.cols → at t j i ≡ at a i j
