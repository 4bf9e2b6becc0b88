-- The states of the simplex method, and one step of it.
use Rattle.pm_vector.specs.Numbers.{Ratio}
use Rattle.pm_vector.specs.Rows.{Row}
use Rattle.pm_vector.specs.Bases.{column}
use Rattle.pm_simplex.specs.Comparisons.{HindersAt, IsApart, IsRectangular, IsShaped, direction, rows_of}
use Rattle.pm_programs.specs.Dictionaries.{AllFit, IsDictionaryOf, IsPivoted, at, row_of}
use Rattle.pm_programs.specs.Pivots.{IsLexFeasible}
use Rattle.pm_simplex.specs.States.{auxiliary, columns_of, is_signed, key_columns, key_vector, objective_column, phase_column}
use Rattle.pm_simplex.specs.declared.dictionary.Dictionary.{Dictionary}
use Rattle.pm_simplex.specs.declared.entering.Entering.{Entering}
use Rattle.pm_simplex.specs.declared.layout.Layout.{Layout}
use Rattle.std.specs.Prelude.{List, length, slice_set, true, ℕ, ◌+◌, ◌<◌, ◌^◌, ◌≡◌, ◌≤◌, ◌⊎◌}
use lib.IntN.{pos, ◌*ℤ◌}
use lib.Signed.{◌<ℤ◌, ◌≤ℤ◌}

-- d is the dictionary of its basis for the equations S, laid out by y with the column of the constants first; it is
-- lexicographically feasible, and row z is that of an objective
pub record IsState (y : Layout) (S : List Row) (d : Dictionary) (z : ℕ) : Type 0 where
  pub shaped : IsShaped y d
  pub apart : IsApart (columns_of y) d.basis.items d.others.items
  pub dictionary : IsDictionaryOf S d.basis.items d.others.items (rows_of d)
  pub feasible : IsLexFeasible (key_columns y) (is_signed y) d.basis.items dictionary.whole
  pub fits : (i : ℕ) → i < length d.basis.items → AllFit (length d.others.items) (row_of (rows_of d) i)
  pub some : 0 < length d.others.items
  pub constant : column d.others.items 0 ≡ 0
  pub within : z < length d.basis.items
  pub objective : auxiliary y < column d.basis.items z

-- d' is d after the pivot at row l and place j
pub record IsPivotOf (d : Dictionary) (l j : ℕ) (d' : Dictionary) : Type 0 where
  pub basis : d'.basis.items ≡ slice_set d.basis.items l (column d.others.items j)
  pub others : d'.others.items ≡ slice_set d.others.items j (column d.basis.items l)
  pub rectangular : IsRectangular d'
  pub pivoted : IsPivoted (length d.basis.items) (length d.others.items) (rows_of d) l j (rows_of d')
  pub fits : (i : ℕ) → i < length d.basis.items → AllFit (length d.others.items) (row_of (rows_of d') i)

-- the column of a free coordinate
abbrev pub IsFreeColumn : Layout → ℕ → Type 0
IsFreeColumn y c = (0 < c) × (c < y.cols)

-- the column of a residual
abbrev pub IsResidualColumn : Layout → ℕ → Type 0
IsResidualColumn y c = (y.cols + y.slacks ≤ c) × (c < y.cols + y.slacks + y.residuals)

-- the column of a slack
abbrev pub IsSlackColumn : Layout → ℕ → Type 0
IsSlackColumn y c = (y.cols ≤ c) × (c < y.cols + y.slacks)

-- the variable at e.place is a free coordinate, or a slack that moves up, and improves the objective of row z as it
-- moves so
pub record IsEntering (y : Layout) (d : Dictionary) (z : ℕ) (e : Entering) : Type 0 where
  pub within : e.place < length d.others.items
  pub not_constant : 0 < e.place
  pub improves : pos 0 <ℤ (direction e.up *ℤ (at (rows_of d) z e.place).num)
  pub may_enter : IsFreeColumn y (column d.others.items e.place)
      ⊎ (IsSlackColumn y (column d.others.items e.place) × (e.up ≡ true))

-- no slack and no free coordinate improves the objective of row z
pub record IsOptimalAt (y : Layout) (d : Dictionary) (z : ℕ) : Type 0 where
  pub free : (k : ℕ) → 0 < k → k < length d.others.items → IsFreeColumn y (column d.others.items k)
      → (at (rows_of d) z k).num ≡ pos 0
  pub slack : (k : ℕ) → 0 < k → k < length d.others.items → IsSlackColumn y (column d.others.items k)
      → (at (rows_of d) z k).num ≤ℤ pos 0

-- what the row of the objective says of the key columns, in their order
abbrev pub objective_vector : Layout → Dictionary → ℕ → List Ratio
objective_vector y d z = key_vector y d.others.items (row_of (rows_of d) z)

-- no row hinders the variable that enters
abbrev pub NoneHinders : Layout → Dictionary → Entering → Type 0
NoneHinders y d e = (i : ℕ) → i < length d.basis.items → HindersAt y d e.place e.up i → ⊥

-- the variable that enters improves the objective, and no row hinders it
pub record IsUnboundedAt (y : Layout) (d : Dictionary) (z : ℕ) (e : Entering) : Type 0 where
  pub entering : IsEntering y d z e
  pub unhindered : NoneHinders y d e

-- d is the dictionary of its basis for the equations S, laid out by y, with the column of the constants first
pub record IsLaidOut (y : Layout) (S : List Row) (d : Dictionary) : Type 0 where
  pub shaped : IsShaped y d
  pub apart : IsApart (columns_of y) d.basis.items d.others.items
  pub dictionary : IsDictionaryOf S d.basis.items d.others.items (rows_of d)
  pub fits : (i : ℕ) → i < length d.basis.items → AllFit (length d.others.items) (row_of (rows_of d) i)
  pub some : 0 < length d.others.items
  pub constant : column d.others.items 0 ≡ 0

-- the variable of row i depends on residuals alone: so it is 0 where they are
pub record IsSettledRow (y : Layout) (d : Dictionary) (i : ℕ) : Type 0 where
  pub zero : (k : ℕ) → k < length d.others.items → ¬ (IsResidualColumn y (column d.others.items k))
      → (at (rows_of d) i k).num ≡ pos 0

-- the two objectives have the last rows, and a residual that is left in the basis depends on residuals alone
pub record IsArranged (y : Layout) (d : Dictionary) : Type 0 where
  pub count : length d.basis.items ≡ y.slacks + y.residuals + 2
  pub objective : column d.basis.items (y.slacks + y.residuals) ≡ objective_column y
  pub phase : column d.basis.items (y.slacks + y.residuals + 1) ≡ phase_column y
  pub settled : (i : ℕ) → i < length d.basis.items → IsResidualColumn y (column d.basis.items i)
      → IsSettledRow y d i

-- the auxiliary variable is not in the basis, so it is 0
pub record IsWithoutHelp (y : Layout) (d : Dictionary) : Type 0 where
  pub absent : (i : ℕ) → i < length d.basis.items → ¬ (column d.basis.items i ≡ auxiliary y)

-- residuals are leaving the basis for free coordinates: the rows before row n are done, and the auxiliary variable,
-- which has not entered, stands in the rows of the slacks, not in those of equations
pub record IsAbsorbing (y : Layout) (S : List Row) (d : Dictionary) (n : ℕ) : Type 0 where
  pub laid_out : IsLaidOut y S d
  pub cols : length d.others.items ≡ y.cols + 1
  pub help : column d.others.items y.cols ≡ auxiliary y
  pub count : length d.basis.items ≡ y.slacks + y.residuals + 2
  pub objective : column d.basis.items (y.slacks + y.residuals) ≡ objective_column y
  pub phase : column d.basis.items (y.slacks + y.residuals + 1) ≡ phase_column y
  pub slacks : (i : ℕ) → i < y.slacks → column d.basis.items i ≡ y.cols + i
  pub residuals : (i : ℕ) → n ≤ i → i < y.slacks + y.residuals → column d.basis.items i ≡ y.cols + i
  pub done : (i : ℕ) → y.slacks ≤ i → i < n → IsFreeColumn y (column d.basis.items i)
      ⊎ (IsResidualColumn y (column d.basis.items i) × IsSettledRow y d i)
  pub helped : (i : ℕ) → i < y.slacks → pos 0 <ℤ (at (rows_of d) i y.cols).num
  pub not_helped : (i : ℕ) → y.slacks ≤ i → i < y.slacks + y.residuals
      → (at (rows_of d) i y.cols).num ≡ pos 0

-- the residual of row r is a constant other than 0, plus residuals: so the equations have no solution
pub record IsContradiction (y : Layout) (S : List Row) (d : Dictionary) (r : ℕ) : Type 0 where
  pub absorbing : IsAbsorbing y S d r
  pub from : y.slacks ≤ r
  pub within : r < y.slacks + y.residuals
  pub free : (k : ℕ) → k < length d.others.items → IsFreeColumn y (column d.others.items k)
      → (at (rows_of d) r k).num ≡ pos 0
  pub constant : ¬ ((at (rows_of d) r 0).num ≡ pos 0)

-- the columns have 32 bits
pub record IsSmall (d : Dictionary) : Type 0 where
  pub basis : (i : ℕ) → i < length d.basis.items → column d.basis.items i < 2 ^ 32
  pub others : (k : ℕ) → k < length d.others.items → column d.others.items k < 2 ^ 32
