-- What a value is, where one form of it is meant, and rows as a value.
use Rattle.std.specs.Prelude.{ℕ, Bool, false, List, [], ◌∷◌, Option, None, Some}
use Rattle.pm_vector.specs.Numbers.{Ratio}
use Rattle.pm_fraction.specs.Matrices.{FractionMatrix}
use Rattle.pm_types.specs.Values.{IndexSets, PropertyValue, matrix, sets, truth}

-- the truth value that is there, if it is one
abbrev pub truth_in : Option PropertyValue → Bool
truth_in (Some (truth b)) = b
truth_in v = false

-- a matrix as a value
abbrev pub matrix_of : FractionMatrix → PropertyValue
matrix_of m = matrix m.cols m.rows

-- the matrix, where the value is one
abbrev pub matrix_in : PropertyValue → Option PropertyValue
matrix_in (matrix n rows) = Some (matrix n rows)
matrix_in v = None

-- sets as a value
abbrev pub value_of_sets : IndexSets → PropertyValue
value_of_sets s = sets s.rows s.cols

-- the sets, where the value is some
abbrev pub sets_in : PropertyValue → Option IndexSets
sets_in (sets rows n) = Some (record { rows = rows; cols = n })
sets_in v = None

-- ---- rows as a value
-- n columns, but none where there is no row
abbrev pub cols_over : ℕ → List (List Ratio) → ℕ
cols_over n [] = 0
cols_over n (r ∷ rows) = n

-- rows of n columns, as a value
abbrev pub value_over : ℕ → List (List Ratio) → PropertyValue
value_over n rows = matrix (cols_over n rows) rows

-- the matrix of these rows
abbrev pub as_put : ℕ → List (List Ratio) → FractionMatrix
as_put n rows = record { cols = cols_over n rows; rows = rows }
