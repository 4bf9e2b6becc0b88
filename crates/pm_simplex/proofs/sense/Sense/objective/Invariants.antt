use Rattle.pm_simplex.proofs.sense.Sense.objective.Given as goal
use Rattle.pm_simplex.specs.Senses.{ratio_in}
use Rattle.std.proofs.Common.{map, take, ◌≡◌}

abbrev pub invariant-loop-entry : goal.invariant-loop-entry
invariant-loop-entry l = l.turned.items ≡ map (ratio_in l.self) (take l.entry-index l.objective)
