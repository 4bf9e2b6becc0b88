use Rattle.pm_geom.specs.FaceCounts.{binom}
use Rattle.pm_graph.proofs.h_numbers.choose.Given as goal
use Rattle.std.proofs.Common.{◌+◌, ◌≡◌}

abbrev pub invariant-loop-step : goal.invariant-loop-step
invariant-loop-step l = l.count ≡ binom (l.k + l.step) l.k
