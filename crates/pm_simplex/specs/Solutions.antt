-- What a column of a dictionary says: the solution of the equations in which the column's own variable is 1 and the
-- other variables outside of the basis are 0.
use Rattle.pm_vector.specs.Numbers.{Ratio}
use Rattle.pm_vector.specs.Rows.{Row, dot, entry, ratio_at}
use Rattle.pm_vector.specs.Bases.{column, row_at}
use Rattle.pm_fraction.specs.Fractions.{ratio_of}
use Rattle.pm_simplex.specs.Comparisons.{IsApart, IsCovered, direction, rows_of}
use Rattle.pm_programs.specs.Dictionaries.{IsDictionaryOf, at}
use Rattle.pm_geom.specs.Programs.{HasValue, IsDirection, IsPoint, IsTimes}
use Rattle.pm_simplex.specs.ProgramLaws.{IsSystem}
use Rattle.pm_simplex.specs.Running.{IsState, IsUnboundedAt}
use Rattle.pm_simplex.specs.States.{auxiliary, objective_column, upward}
use Rattle.pm_simplex.specs.declared.dictionary.Dictionary.{Dictionary}
use Rattle.pm_simplex.specs.declared.entering.Entering.{Entering}
use Rattle.pm_simplex.specs.declared.layout.Layout.{Layout}
use Rattle.std.specs.Prelude.{List, [], if◌then◌else◌, length, map, nat_eq, ℕ, ◌+◌, ◌<◌, ◌∷◌, ◌≡◌}
use lib.IntN.{pos, ℤ, ◌*ℤ◌}
use lib.Signed.{◌<ℤ◌}

-- the fraction at place k of the row that writes the variable of the column c; 0 where none does
abbrev pub row_found : ℕ → ℕ → List ℕ → List (List Ratio) → Ratio
row_found c k [] D = ratio_of (pos 0) (pos 1)
row_found c k (p ∷ P) [] = ratio_of (pos 0) (pos 1)
row_found c k (p ∷ P) (r ∷ D) = if nat_eq p c then ratio_at r k else row_found c k P D

-- the value of the column c in the solution for place k, whose column is n: that variable is 1, the other variables
-- outside of the basis are 0
abbrev pub solution_at : ℕ → ℕ → List ℕ → List (List Ratio) → ℕ → Ratio
solution_at n k P D c = if nat_eq c n then ratio_of (pos 1) (pos 1) else row_found c k P D

-- the values of the columns below m
abbrev pub solution : ℕ → ℕ → List ℕ → List (List Ratio) → ℕ → List Ratio
solution n k P D m = map (solution_at n k P D) (upward 0 m)

-- the column k solves the equations: some positive multiple of its values is a whole row that has product 0 with each
-- of them
pub record IsSolution (S : List Row) (v : List Ratio) : Type 0 where
  pub k : ℤ
  pub whole : Row
  pub times : IsTimes k v whole
  pub solves : (i : ℕ) → i < length S → dot (row_at S i) whole ≡ pos 0

-- the solution for each place of a dictionary solves the equations
abbrev pub ColumnSolves : Type 0
ColumnSolves = (S : List Row) (P N : List ℕ) (D : List (List Ratio)) (m k : ℕ) → IsDictionaryOf S P N D
    → length D ≡ length P → IsApart m P N → k < length N → ((c : ℕ) → c < m → IsCovered P N c)
    → ((i c : ℕ) → i < length S → ¬ (c < m) → entry (row_at S i) c ≡ pos 0)
    → IsSolution S (solution (column N k) k P D m)

-- the auxiliary variable and the residuals are 0 in the solution of the column k
pub record IsSettled (y : Layout) (d : Dictionary) (k : ℕ) : Type 0 where
  pub auxiliary_zero : (solution_at (column d.others.items k) k d.basis.items (rows_of d) (auxiliary y)).num
      ≡ pos 0
  pub residuals_zero : (j : ℕ) → j < y.residuals
      → (solution_at (column d.others.items k) k d.basis.items (rows_of d) (y.cols + y.slacks + j)).num
      ≡ pos 0

-- the first column gives a point of the value that the row of the objective has in it
abbrev pub FeasibleGivesPoint : Type 0
FeasibleGivesPoint = (y : Layout) (A B : List Row) (c : List Ratio) (C : Row) (k : ℤ) (S : List Row)
    (d : Dictionary) (z : ℕ) → IsTimes k c C → IsSystem y A B C k S → IsState y S d z
    → column d.basis.items z ≡ objective_column y → IsSettled y d 0
    → IsPoint A B (solution 0 0 d.basis.items (rows_of d) y.cols)
    × HasValue c (solution 0 0 d.basis.items (rows_of d) y.cols) (at (rows_of d) z 0)

-- s times each fraction, for a sign s
abbrev pub turned : ℤ → List Ratio → List Ratio
turned s v = map (λ (r : Ratio). ratio_of (s *ℤ r.num) r.den) v

-- where the variable that enters is hindered by no row, its column, in its direction, improves the objective
abbrev pub UnboundedGivesDirection : Type 0
UnboundedGivesDirection = (y : Layout) (A B : List Row) (c : List Ratio) (C : Row) (k : ℤ) (S : List Row)
    (d : Dictionary) (z : ℕ) (e : Entering) → IsTimes k c C → IsSystem y A B C k S → IsState y S d z
    → column d.basis.items z ≡ objective_column y
    → IsSettled y d e.place → IsUnboundedAt y d z e
    → IsDirection A B
    (turned (direction e.up) (solution (column d.others.items e.place) e.place d.basis.items
    (rows_of d) y.cols))
    × HasValue c
    (turned (direction e.up) (solution (column d.others.items e.place) e.place d.basis.items
    (rows_of d) y.cols)) (ratio_of (direction e.up *ℤ (at (rows_of d) z e.place).num) (at
    (rows_of d) z e.place).den)
    × (pos 0 <ℤ (direction e.up *ℤ (at (rows_of d) z e.place).num))

-- v is f n, f (n + 1), .. (m of them)
pub record Lists (f : ℕ → Ratio) (n m : ℕ) (v : List Ratio) : Type 0 where
  pub count : length v ≡ m
  pub each : (j : ℕ) → j < m → ratio_at v j ≡ f (n + j)
