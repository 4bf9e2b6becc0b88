-- What the answers of a linear program are right for.
use Rattle.pm_vector.specs.Numbers.{Ratio}
use Rattle.pm_vector.specs.Rows.{Row}
use Rattle.pm_dual.specs.declared.answer.LpAnswer.TheVariants.{Infeasible, Optimal, Unbounded}
use Rattle.pm_dual.specs.declared.answer.LpAnswer.{LpAnswer}
use Rattle.pm_geom.specs.Programs.{IsInfeasible, IsOptimal, IsTimes, IsUnbounded}
use Rattle.std.specs.Prelude.{List}
use lib.IntN.{ℤ}

-- the answer is right for the program with the inequalities A, the equations B and the objective c
abbrev pub IsAnswer : List Row → List Row → List Ratio → LpAnswer → Type 0
IsAnswer A B c (Optimal value point dual) = IsOptimal A B c value point.items dual.items
IsAnswer A B c (Unbounded point direction) = IsUnbounded A B c point.items direction.items
IsAnswer A B c (Infeasible multipliers) = IsInfeasible A B multipliers.items

-- the answer is right for each objective that the whole row X is k times
pub record IsAnswerOfTimes (A B : List Row) (k : ℤ) (X : Row) (answer : LpAnswer) : Type 0 where
  pub right : (c : List Ratio) → IsTimes k c X → IsAnswer A B c answer
