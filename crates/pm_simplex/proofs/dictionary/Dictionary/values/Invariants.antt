use Rattle.pm_vector.specs.Bases.{column}
use Rattle.pm_simplex.proofs.dictionary.Dictionary.values.Given as goal
use Rattle.pm_simplex.specs.Comparisons.{rows_of}
use Rattle.pm_simplex.specs.ProgramLaws.{signed_by}
use Rattle.pm_simplex.specs.Solutions.{Lists, solution_at}

abbrev pub invariant-loop-c : goal.invariant-loop-c
invariant-loop-c l = Lists (λ c. signed_by l.up (solution_at (column l.self.others.items l.k) l.k l.self.basis.items (rows_of l.self) c)) 0 l.c l.values.items
