use Rattle.std.proofs.Common.{◌≡◌, drop, Some}
use Rattle.std.specs.Prelude.{map}
use Rattle.pm_object.specs.State.{holds_computed_at}
use Rattle.pm_object.specs.Views.{held_seen}
use Rattle.pm_object.proofs.object.holds_computed.Given as goal

abbrev pub invariant-loop-h : goal.invariant-loop-h
invariant-loop-h l = holds_computed_at (Some l.place) (map held_seen l.held) ≡ holds_computed_at (Some l.place) (map held_seen (drop l.h-index l.held))
