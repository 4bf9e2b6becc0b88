use Rattle.pm_simplex.proofs.dictionary.Dictionary.multipliers.Given as goal
use Rattle.pm_simplex.specs.Comparisons.{key_of}
use Rattle.pm_simplex.specs.ProgramLaws.{signed_by}
use Rattle.pm_simplex.specs.Solutions.{Lists}

abbrev pub invariant-loop-j : goal.invariant-loop-j
invariant-loop-j l = Lists (λ c. signed_by l.up (key_of l.self l.r c)) l.y.cols l.j l.multipliers.items
