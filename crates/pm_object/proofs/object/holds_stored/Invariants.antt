use Rattle.std.proofs.Common.{◌≡◌, drop}
use Rattle.std.specs.Prelude.{map}
use Rattle.pm_object.specs.State.{holds_stored}
use Rattle.pm_object.specs.Views.{held_seen}
use Rattle.pm_object.proofs.object.holds_stored.Given as goal

abbrev pub invariant-loop-h : goal.invariant-loop-h
invariant-loop-h l = holds_stored (map held_seen l.held) ≡ holds_stored (map held_seen (drop l.h-index l.held))
