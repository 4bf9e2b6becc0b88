use Rattle.pm_types.proofs.lattice.Lattice.copy.Given as goal
use Rattle.pm_types.specs.Lists.{lists_of}
use Rattle.std.proofs.Common.{◌≡◌}
use Rattle.std.specs.Prelude.{map, take}

abbrev pub invariant-loop-faces : goal.invariant-loop-faces
invariant-loop-faces l = map lists_of l.ranks.items ≡ take l.faces-index (map lists_of l.faces-items)
