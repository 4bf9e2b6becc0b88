use Rattle.std.proofs.Common.{◌≡◌}
use Rattle.std.specs.Prelude.{map, take}
use Rattle.pm_object.specs.Views.{held_seen}
use Rattle.pm_object.proofs.copies.copy_held.Given as goal

abbrev pub invariant-loop-h : goal.invariant-loop-h
invariant-loop-h l = map held_seen l.copies.items ≡ take l.h-index (map held_seen l.held)
