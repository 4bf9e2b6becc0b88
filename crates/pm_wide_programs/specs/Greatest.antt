-- The greatest value that the answer of a linear program tells.
use Rattle.pm_dual.specs.declared.answer.LpAnswer.TheVariants.{Infeasible, Optimal, Unbounded}
use Rattle.pm_dual.specs.declared.answer.LpAnswer.{LpAnswer}
use Rattle.pm_types.specs.Values.{Extended, finite, minus_infinity, plus_infinity}

abbrev pub greatest_in : LpAnswer → Extended
greatest_in (Optimal value point dual) = finite value
greatest_in (Unbounded point direction) = plus_infinity
greatest_in (Infeasible multipliers) = minus_infinity
