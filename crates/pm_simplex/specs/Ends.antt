-- What a step and the end of the simplex method tell.
use Rattle.pm_simplex.specs.declared.entering.Entering.{Entering}
use Rattle.pm_simplex.specs.declared.simplex.End.{End}
use Rattle.pm_simplex.specs.declared.simplex.End.TheVariants.{Optimal as EndOptimal, Unbounded as EndUnbounded}
use Rattle.pm_simplex.specs.declared.simplex.Step.{Step}
use Rattle.pm_simplex.specs.declared.simplex.Step.TheVariants.{Better, Optimal, Unbounded}

-- B where a pivot was made, O where no variable improves the objective, U of the variable that does without a bound
abbrev pub IfStep : Step → Type 0 → Type 0 → (Entering → Type 0) → Type 0
IfStep Better B O U = B
IfStep Optimal B O U = O
IfStep (Unbounded e) B O U = U e

-- O where no variable improves the objective, U of the variable that does without a bound
abbrev pub IfEnd : End → Type 0 → (Entering → Type 0) → Type 0
IfEnd EndOptimal O U = O
IfEnd (EndUnbounded e) O U = U e
