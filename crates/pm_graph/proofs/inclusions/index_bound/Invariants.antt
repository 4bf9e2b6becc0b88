use Rattle.pm_graph.proofs.inclusions.index_bound.Given as goal
use Rattle.pm_graph.specs.Levels.{AreBelow}
use Rattle.pm_types.specs.Lists.{lists_of}
use Rattle.std.proofs.Common.{map, take}
use Rattle.std.specs.List.{All}

abbrev pub invariant-loop-faces : goal.invariant-loop-faces
invariant-loop-faces l = All (AreBelow l.bound) (take l.faces-index (map lists_of l.ranks))
