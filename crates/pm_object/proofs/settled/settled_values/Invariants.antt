use Rattle.std.proofs.Common.{◌≡◌}
use Rattle.std.specs.Prelude.{map, take}
use Rattle.pm_object.specs.Views.{held_seen}
use Rattle.pm_object.specs.State.{settled}
use Rattle.pm_object.proofs.settled.settled_values.Given as goal

abbrev pub invariant-loop-name : goal.invariant-loop-name
invariant-loop-name l = map held_seen l.values.items ≡ take l.name-index (map (settled l.n) l.names)
