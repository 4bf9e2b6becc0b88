use Rattle.pm_simplex.proofs.absorb.absorb.Given as goal
use Rattle.pm_simplex.specs.Running.{IsAbsorbing}

abbrev pub ghost-absorb_row : goal.ghost-absorb_row
ghost-absorb_row g a = g.system

abbrev pub invariant-loop-n : goal.invariant-loop-n
invariant-loop-n g l = IsAbsorbing l.y g.system l.d l.n
