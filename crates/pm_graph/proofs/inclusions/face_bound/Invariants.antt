use Rattle.pm_graph.proofs.inclusions.face_bound.Given as goal
use Rattle.std.proofs.Common.{take, ◌<◌, ◌≤◌}
use Rattle.std.specs.List.{All}

abbrev pub invariant-loop-j : goal.invariant-loop-j
invariant-loop-j l = record {
  above : All (λ j. j < l.bound) (take l.j-index l.face);
  least : l.initial.bound ≤ l.bound;
}
