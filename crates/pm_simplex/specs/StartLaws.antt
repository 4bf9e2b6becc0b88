-- The equations of a program, and why its start is a dictionary of them.
use Rattle.pm_vector.specs.Numbers.{Ratio}
use Rattle.pm_vector.specs.Rows.{HasCols, Row}
use Rattle.pm_geom.specs.Programs.{IsTimes}
use Rattle.pm_simplex.specs.Phases.{IsPhaseSystem}
use Rattle.pm_simplex.specs.ProgramLaws.{IsSystem}
use Rattle.pm_simplex.specs.Running.{IsAbsorbing}
use Rattle.pm_simplex.specs.Starts.{IsStart}
use Rattle.pm_simplex.specs.Systems.{equations_of}
use Rattle.pm_simplex.specs.declared.dictionary.Dictionary.{Dictionary}
use Rattle.pm_simplex.specs.declared.layout.Layout.{Layout}
use Rattle.std.specs.Prelude.{List, length, ◌≡◌}
use lib.IntN.{ℤ}

-- S are the equations of the program with the rows A and B and the objective c, of which it has a whole multiple
pub record IsProgramSystem (y : Layout) (A B : List Row) (c : List Ratio) (S : List Row) : Type 0 where
  pub k : ℤ
  pub objective : Row
  pub times : IsTimes k c objective
  pub system : IsSystem y A B objective k S
  pub phase : IsPhaseSystem y S

-- the start d is a dictionary of the program's equations, in which no residual has left
pub record IsStarted (y : Layout) (A B : List Row) (c : List Ratio) (d : Dictionary) : Type 0 where
  pub equations : IsProgramSystem y A B c (equations_of y A B c)
  pub absorbing : IsAbsorbing y (equations_of y A B c) d y.slacks

-- each start is one
abbrev pub StartIsAbsorbing : Type 0
StartIsAbsorbing = (y : Layout) (A B : List Row) (c : List Ratio) (d : Dictionary) → length A ≡ y.slacks
    → length B ≡ y.residuals → length c ≡ y.cols → HasCols y.cols A → HasCols y.cols B → IsStart y A B c d
    → IsStarted y A B c d
