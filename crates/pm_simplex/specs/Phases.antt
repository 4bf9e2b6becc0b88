-- The first phase: the auxiliary variable is made least, by the objective that is its opposite.
use Rattle.pm_vector.specs.Rows.{Row, entry}
use Rattle.pm_vector.specs.Bases.{column, row_at}
use Rattle.pm_simplex.specs.ProgramLaws.{IsLeastAuxiliary}
use Rattle.pm_simplex.specs.Running.{IsOptimalAt, IsState, IsUnboundedAt}
use Rattle.pm_simplex.specs.States.{auxiliary, phase_column}
use Rattle.pm_simplex.specs.declared.dictionary.Dictionary.{Dictionary}
use Rattle.pm_simplex.specs.declared.entering.Entering.{Entering}
use Rattle.pm_simplex.specs.declared.layout.Layout.{Layout}
use Rattle.std.specs.Prelude.{List, length, ℕ, ◌<◌, ◌≡◌}
use lib.IntN.{negsuc, pos}

-- one of the equations S says that the objective of the first phase is the opposite of the auxiliary variable
pub record IsPhaseSystem (y : Layout) (S : List Row) : Type 0 where
  pub place : ℕ
  pub within : place < length S
  pub auxiliary_entry : entry (row_at S place) (auxiliary y) ≡ negsuc 0
  pub phase_entry : entry (row_at S place) (phase_column y) ≡ negsuc 0
  pub zero : (v : ℕ) → ¬ (v ≡ auxiliary y) → ¬ (v ≡ phase_column y) → entry (row_at S place) v ≡ pos 0

-- where the first phase ends with the auxiliary variable in the basis, no variable lowers it
abbrev pub PhaseIsLeast : Type 0
PhaseIsLeast = (y : Layout) (S : List Row) (d : Dictionary) (w r : ℕ) → IsPhaseSystem y S → IsState y S d w
    → column d.basis.items w ≡ phase_column y → r < length d.basis.items
    → column d.basis.items r ≡ auxiliary y → IsOptimalAt y d w → IsLeastAuxiliary y d r

-- the first phase is never without a bound
abbrev pub PhaseIsBounded : Type 0
PhaseIsBounded = (y : Layout) (S : List Row) (d : Dictionary) (w : ℕ) (e : Entering) → IsPhaseSystem y S
    → IsState y S d w → column d.basis.items w ≡ phase_column y → ¬ (IsUnboundedAt y d w e)
