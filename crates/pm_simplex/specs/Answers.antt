-- What the answers of a linear program are right for.
use Rattle.pm_vector.specs.Numbers.{Ratio}
use Rattle.pm_vector.specs.Rows.{Row}
use Rattle.pm_geom.specs.declared.evidence.Evidence.{Evidence}
use Rattle.pm_fraction.specs.FractionRows.{ArePrimitiveRowsOf}
use Rattle.pm_simplex.specs.Evidence.{IsShownBy}
use Rattle.pm_simplex.specs.ProgramLaws.{IsLeastAuxiliary}
use Rattle.pm_simplex.specs.Running.{IsArranged, IsState, IsWithoutHelp}
use Rattle.pm_simplex.specs.StartLaws.{IsProgramSystem}
use Rattle.pm_simplex.specs.Systems.{equations_of}
use Rattle.pm_dual.specs.Answers.{IsAnswer}
use Rattle.pm_dual.specs.declared.answer.LpAnswer.{LpAnswer}
use Rattle.pm_simplex.specs.declared.dictionary.Dictionary.{Dictionary}
use Rattle.pm_simplex.specs.declared.layout.Layout.{Layout}
use Rattle.std.specs.Prelude.{List, length, ℕ, ◌+◌, ◌≡◌}

-- a program and its equations over all columns
pub record Program : Type 0 where
  pub inequalities : List Row
  pub equations : List Row
  pub objective : List Ratio
  pub system : List Row

-- the program with the rows A and B and the objective c, laid out by y
abbrev pub program_of : Layout → List Row → List Row → List Ratio → Program
program_of y A B c = record { inequalities = A; equations = B; objective = c; system = equations_of y A B c }

-- the program is laid out by y
pub record IsProgram (y : Layout) (g : Program) : Type 0 where
  pub cols : length g.objective ≡ y.cols
  pub equations : IsProgramSystem y g.inequalities g.equations g.objective g.system

-- d is feasible without the auxiliary variable
pub record IsReady (y : Layout) (S : List Row) (d : Dictionary) : Type 0 where
  pub state : IsState y S d (y.slacks + y.residuals)
  pub arranged : IsArranged y d
  pub without : IsWithoutHelp y d

-- the auxiliary variable has the row r, and is least
pub record IsStuck (y : Layout) (S : List Row) (d : Dictionary) (r : ℕ) : Type 0 where
  pub state : IsState y S d (y.slacks + y.residuals + 1)
  pub arranged : IsArranged y d
  pub least : IsLeastAuxiliary y d r

-- the evidence shows a pivot of a dictionary of the program that leaves the range
pub record ShowsProgram (A B : List Row) (c : List Ratio) (e : Evidence) : Type 0 where
  pub layout : Layout
  pub cols : layout.cols ≡ length c
  pub slacks : layout.slacks ≡ length A
  pub residuals : layout.residuals ≡ length B
  pub shown : IsShownBy layout (equations_of layout A B c) e

-- the answer is right for the primitive rows of the rows I and E of fractions
pub record IsAnswerOf (I E : List (List Ratio)) (c : List Ratio) (answer : LpAnswer) : Type 0 where
  pub inequalities : List Row
  pub equations : List Row
  pub inequality_rows : ArePrimitiveRowsOf I inequalities
  pub equation_rows : ArePrimitiveRowsOf E equations
  pub right : IsAnswer inequalities equations c answer

-- the evidence is of their program
pub record ShowsProgramOf (I E : List (List Ratio)) (c : List Ratio) (e : Evidence) : Type 0 where
  pub inequalities : List Row
  pub equations : List Row
  pub inequality_rows : ArePrimitiveRowsOf I inequalities
  pub equation_rows : ArePrimitiveRowsOf E equations
  pub shown : ShowsProgram inequalities equations c e
