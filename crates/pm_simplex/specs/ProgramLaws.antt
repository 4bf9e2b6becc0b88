-- The laws of linear programs.
use Rattle.pm_vector.specs.Numbers.{Ratio}
use Rattle.pm_vector.specs.Rows.{Row, entry, ratio_at}
use Rattle.pm_vector.specs.Bases.{row_at}
use Rattle.pm_simplex.specs.Comparisons.{direction, key_of, rows_of}
use Rattle.pm_programs.specs.Dictionaries.{at, row_of}
use Rattle.pm_geom.specs.Programs.{IsDual, IsInfeasible, IsTimes}
use Rattle.pm_vector.specs.Bases.{column}
use Rattle.pm_fraction.specs.Arithmetic.{opposite_of}
use Rattle.pm_simplex.specs.Running.{IsContradiction, IsFreeColumn, IsOptimalAt, IsSlackColumn, IsState}
use Rattle.pm_simplex.specs.States.{auxiliary, columns_of, key_found, objective_column, upward}
use Rattle.pm_simplex.specs.declared.dictionary.Dictionary.{Dictionary}
use Rattle.pm_simplex.specs.declared.layout.Layout.{Layout}
use Rattle.std.specs.Prelude.{Bool, List, [], false, if◌then◌else◌, length, map, ℕ, ◌+◌, ◌++◌, ◌<◌, ◌∷◌, ◌≡◌, ◌≤◌}
use lib.IntN.{neg_ℤ, negsuc, pos, ℤ, ◌*ℤ◌}
use lib.Signed.{◌<ℤ◌, ◌≤ℤ◌}

-- S begins with the equations a x - slack + auxiliary = 0 for the rows A, b x - residual = 0 for the rows B, and c x
-- - k objective = 0, each with its own variable; further rows have none of these
pub record IsSystem (y : Layout) (A B : List Row) (c : Row) (k : ℤ) (S : List Row) : Type 0 where
  pub slacks : length A ≡ y.slacks
  pub residuals : length B ≡ y.residuals
  pub count : y.slacks + y.residuals + 1 ≤ length S
  pub positive : pos 0 <ℤ k
  pub body : (i v : ℕ) → i < y.slacks + y.residuals + 1 → v < y.cols
      → entry (row_at S i) v ≡ entry (row_at ((A ++ B) ++ c ∷ []) i) v
  pub further : (i v : ℕ) → y.slacks + y.residuals < i → i < length S → v < y.cols
      → entry (row_at S i) v ≡ pos 0
  pub width : (i v : ℕ) → i < y.slacks + y.residuals + 1 → y.cols ≤ v
      → entry (row_at ((A ++ B) ++ c ∷ []) i) v ≡ pos 0
  pub own : (i : ℕ) → i < y.slacks + y.residuals → entry (row_at S i) (y.cols + i) ≡ negsuc 0
  pub own_objective : entry (row_at S (y.slacks + y.residuals)) (objective_column y) ≡ neg_ℤ k
  pub zero : (i j : ℕ) → i < length S → j < y.slacks + y.residuals → ¬ (i ≡ j)
      → entry (row_at S i) (y.cols + j) ≡ pos 0
  pub zero_objective : (i : ℕ) → i < length S → ¬ (i ≡ y.slacks + y.residuals)
      → entry (row_at S i) (objective_column y) ≡ pos 0
  pub helped : (i : ℕ) → i < y.slacks → entry (row_at S i) (auxiliary y) ≡ pos 1
  pub not_helped : (i : ℕ) → i < y.slacks + y.residuals + 1 → y.slacks ≤ i
      → entry (row_at S i) (auxiliary y) ≡ pos 0
  pub past : (i v : ℕ) → i < y.slacks + y.residuals + 1 → objective_column y < v
      → entry (row_at S i) v ≡ pos 0
  pub end : (i v : ℕ) → columns_of y ≤ v → entry (row_at S i) v ≡ pos 0

-- what the row of the objective says of the slacks and the residuals
abbrev pub dual_of : Layout → Dictionary → ℕ → List Ratio
dual_of y d z = map (λ c. key_found c d.others.items (row_of (rows_of d) z))
    (upward y.cols (y.slacks + y.residuals))

-- an optimal dictionary has a dual of its value
abbrev pub OptimalGivesDual : Type 0
OptimalGivesDual = (y : Layout) (A B : List Row) (c : List Ratio) (C : Row) (k : ℤ) (S : List Row)
    (d : Dictionary) (z : ℕ) → IsTimes k c C → IsSystem y A B C k S → IsState y S d z
    → column d.basis.items z ≡ objective_column y → IsOptimalAt y d z
    → IsDual A B c (at (rows_of d) z 0) (dual_of y d z)

-- no slack and no free coordinate lowers the auxiliary variable, whose row is r
pub record IsLeastAuxiliary (y : Layout) (d : Dictionary) (r : ℕ) : Type 0 where
  pub within : r < length d.basis.items
  pub auxiliary_row : column d.basis.items r ≡ auxiliary y
  pub free : (i : ℕ) → 0 < i → i < length d.others.items → IsFreeColumn y (column d.others.items i)
      → (at (rows_of d) r i).num ≡ pos 0
  pub slack : (i : ℕ) → 0 < i → i < length d.others.items → IsSlackColumn y (column d.others.items i)
      → pos 0 ≤ℤ (at (rows_of d) r i).num

-- a fraction, or its opposite
abbrev pub signed_by : Bool → Ratio → Ratio
signed_by up r = if up then r else opposite_of r

-- m has a number for each slack and residual: that by which it stands in the row r, where the own variable stands
-- with -1 on the other side, or the opposite
pub record AreMultipliersOf (y : Layout) (d : Dictionary) (r : ℕ) (up : Bool) (m : List Ratio) : Type 0 where
  pub count : length m ≡ y.slacks + y.residuals
  pub each : (j : ℕ) → j < y.slacks + y.residuals → ratio_at m j ≡ signed_by up (key_of d r (y.cols + j))

-- where the least auxiliary variable is basic, it is positive, and its row gives multipliers of infeasibility
abbrev pub LeastAuxiliaryExcludes : Type 0
LeastAuxiliaryExcludes = (y : Layout) (A B : List Row) (C : Row) (k : ℤ) (S : List Row) (d : Dictionary)
    (z o r : ℕ) (m : List Ratio) → IsSystem y A B C k S → IsState y S d z → o < length d.basis.items
    → column d.basis.items o ≡ objective_column y → IsLeastAuxiliary y d r
    → AreMultipliersOf y d r false m → IsInfeasible A B m

-- where a residual is a constant other than 0 plus residuals, its row gives multipliers of infeasibility
abbrev pub ContradictionExcludes : Type 0
ContradictionExcludes = (y : Layout) (A B : List Row) (C : Row) (k : ℤ) (S : List Row) (d : Dictionary)
    (r : ℕ) (up : Bool) (m : List Ratio) → IsSystem y A B C k S → IsContradiction y S d r
    → (direction up *ℤ (at (rows_of d) r 0).num) <ℤ pos 0
    → AreMultipliersOf y d r up m → IsInfeasible A B m
