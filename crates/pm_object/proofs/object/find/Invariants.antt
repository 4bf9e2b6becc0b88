use Rattle.std.proofs.Common.{◌≡◌, drop}
use Rattle.std.specs.Prelude.{map}
use Rattle.pm_object.specs.State.{value_of}
use Rattle.pm_object.specs.Views.{held_seen}
use Rattle.pm_object.proofs.object.find.Given as goal

abbrev pub invariant-loop-h : goal.invariant-loop-h
invariant-loop-h l = value_of l.p (map held_seen l.held) ≡ value_of l.p (map held_seen (drop l.h-index l.held))
