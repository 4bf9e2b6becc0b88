use Rattle.pm_graph.proofs.counts.f_vector.Given as goal
use Rattle.pm_types.specs.Lists.{lists_of}
use Rattle.std.proofs.Common.{length, map, pos, take, ◌≡◌}

abbrev pub invariant-loop-faces : goal.invariant-loop-faces
invariant-loop-faces l = l.counts.items ≡ map (λ faces. pos (length (lists_of faces))) (take l.faces-index l.faces-items)
