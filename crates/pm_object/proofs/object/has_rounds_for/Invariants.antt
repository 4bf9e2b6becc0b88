use Rattle.std.proofs.Common.{◌≡◌, drop, Some}
use Rattle.std.specs.Prelude.{map}
use Rattle.pm_object.specs.State.{has_rounds_at}
use Rattle.pm_object.specs.Views.{round_seen}
use Rattle.pm_object.proofs.object.has_rounds_for.Given as goal

abbrev pub invariant-loop-r : goal.invariant-loop-r
invariant-loop-r l = has_rounds_at (Some l.place) (map round_seen l.rounds) ≡ has_rounds_at (Some l.place) (map round_seen (drop l.r-index l.rounds))
