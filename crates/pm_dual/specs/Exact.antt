-- What an answer of a linear program says of all of its points: each answer is given exactly where the program is
-- such (Chvatal, Linear Programming, chapter 5).
use Rattle.pm_vector.specs.Numbers.{Ratio}
use Rattle.pm_vector.specs.Rows.{Row}
use Rattle.pm_dual.specs.Answers.{IsAnswer}
use Rattle.pm_dual.specs.declared.answer.LpAnswer.TheVariants.{Infeasible, Optimal, Unbounded}
use Rattle.pm_dual.specs.declared.answer.LpAnswer.{LpAnswer}
use Rattle.pm_geom.specs.Programs.{HasNoPoint, IsMaximum, IsWithoutBound, Solves}
use Rattle.std.specs.Prelude.{Bool, IsTrue, List, false, true, ◌↔◌}

-- the points of the rows S have a greatest value of c
pub record HasMaximum (S : Row → Type 0) (c : List Ratio) : Type 0 where
  pub value : Ratio
  pub maximum : IsMaximum S c value

-- which of the three answers it is
abbrev pub is_optimal : LpAnswer → Bool
is_optimal (Optimal value point dual) = true
is_optimal answer = false

abbrev pub is_unbounded : LpAnswer → Bool
is_unbounded (Unbounded point direction) = true
is_unbounded answer = false

abbrev pub is_infeasible : LpAnswer → Bool
is_infeasible (Infeasible multipliers) = true
is_infeasible answer = false

-- the value of an optimum has P
abbrev pub IfOptimal : LpAnswer → (Ratio → Type 0) → Type 0
IfOptimal (Optimal value point dual) P = P value
IfOptimal answer P = Unit {0}

-- the answer is an optimum exactly where there is a greatest value, which is its own; unbounded exactly where there
-- is no bound; infeasible exactly where there is no point
pub record IsExact (S : Row → Type 0) (c : List Ratio) (answer : LpAnswer) : Type 0 where
  pub optimal : IsTrue (is_optimal answer) ↔ HasMaximum S c
  pub value : IfOptimal answer (IsMaximum S c)
  pub unbounded : IsTrue (is_unbounded answer) ↔ IsWithoutBound S c
  pub infeasible : IsTrue (is_infeasible answer) ↔ HasNoPoint S

-- every answer that is right is exact
abbrev pub AnswersAreExact : Type 0
AnswersAreExact = (A B : List Row) (c : List Ratio) (answer : LpAnswer) → IsAnswer A B c answer
    → IsExact (Solves A B) c answer
