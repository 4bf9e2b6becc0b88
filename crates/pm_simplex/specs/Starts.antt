-- The dictionary from which the simplex method starts: the slacks, the residuals and the two objectives by the
-- coordinates and the auxiliary variable.
use Rattle.pm_vector.specs.Numbers.{Ratio}
use Rattle.pm_vector.specs.Rows.{Row, entry, ratio_at}
use Rattle.pm_vector.specs.Bases.{column, row_at}
use Rattle.pm_fraction.specs.Fractions.{ratio_of}
use Rattle.pm_fraction.specs.Matrices.{IsFraction}
use Rattle.pm_programs.specs.Dictionaries.{row_of}
use Rattle.pm_simplex.specs.Comparisons.{rows_of}
use Rattle.pm_simplex.specs.States.{auxiliary}
use Rattle.pm_simplex.specs.declared.dictionary.Dictionary.{Dictionary}
use Rattle.pm_simplex.specs.declared.layout.Layout.{Layout}
use Rattle.std.specs.Prelude.{List, if◌then◌else◌, length, nat_eq, nat_lt, ℕ, ◌+◌, ◌++◌, ◌<◌, ◌≡◌}
use lib.IntN.{negsuc, pos, ℤ}

-- the column of the variable that row i writes: a slack, a residual, the objective, and the objective of the first
-- phase
abbrev pub own_column : Layout → ℕ → ℕ
own_column y i = if nat_lt i (y.slacks + y.residuals) then y.cols + i else y.cols + i + 1

-- the number by which the auxiliary variable stands in row i: 1 for a slack, -1 for the objective of the first phase,
-- else 0
abbrev pub help_of : Layout → ℕ → ℤ
help_of y i = if nat_lt i y.slacks then pos 1
    else (if nat_eq i (y.slacks + y.residuals + 1) then negsuc 0 else pos 0)

-- the fraction in row i at the place k < cols: an entry of the rows A and B, of the objective c, or 0
abbrev pub body_at : Layout → List Row → List Row → List Ratio → ℕ → ℕ → Ratio
body_at y A B c i k = if nat_lt i (y.slacks + y.residuals) then ratio_of (entry (row_at (A ++ B) i) k)
    (pos 1) else (if nat_eq i (y.slacks + y.residuals) then ratio_at c k else ratio_of (pos 0) (pos 1))

-- the fraction in row i at the place k, of which the last one is that of the auxiliary variable
abbrev pub start_at : Layout → List Row → List Row → List Ratio → ℕ → ℕ → Ratio
start_at y A B c i k = if nat_eq k y.cols then ratio_of (help_of y i) (pos 1) else body_at y A B c i k

-- r is row i of the start
pub record IsStartRow (y : Layout) (A B : List Row) (c : List Ratio) (i : ℕ) (r : List Ratio) : Type 0 where
  pub count : length r ≡ y.cols + 1
  pub entries : (k : ℕ) → k < y.cols + 1 → ratio_at r k ≡ start_at y A B c i k
  pub fractions : (k : ℕ) → k < y.cols + 1 → IsFraction (ratio_at r k)

-- d is the start for the rows A and B and the objective c
pub record IsStart (y : Layout) (A B : List Row) (c : List Ratio) (d : Dictionary) : Type 0 where
  pub basis_count : length d.basis.items ≡ y.slacks + y.residuals + 2
  pub others_count : length d.others.items ≡ y.cols + 1
  pub rows_count : length d.rows.items ≡ y.slacks + y.residuals + 2
  pub basis : (i : ℕ) → i < y.slacks + y.residuals + 2 → column d.basis.items i ≡ own_column y i
  pub others : (k : ℕ) → k < y.cols → column d.others.items k ≡ k
  pub help : column d.others.items y.cols ≡ auxiliary y
  pub rows : (i : ℕ) → i < y.slacks + y.residuals + 2 → IsStartRow y A B c i (row_of (rows_of d) i)
