use Rattle.pm_graph.proofs.inclusions.faces_bound.Given as goal
use Rattle.pm_graph.specs.Levels.{AreBelow}
use Rattle.std.proofs.Common.{map, take, ◌≤◌}

abbrev pub invariant-loop-face : goal.invariant-loop-face
invariant-loop-face l = record {
  above : AreBelow l.bound (take l.face-index (map (λ face. face.items) l.faces));
  least : l.initial.bound ≤ l.bound;
}
