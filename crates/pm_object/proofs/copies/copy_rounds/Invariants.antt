use Rattle.std.proofs.Common.{◌≡◌}
use Rattle.std.specs.Prelude.{map, take}
use Rattle.pm_object.specs.Views.{round_seen}
use Rattle.pm_object.proofs.copies.copy_rounds.Given as goal

abbrev pub invariant-loop-r : goal.invariant-loop-r
invariant-loop-r l = map round_seen l.copies.items ≡ take l.r-index (map round_seen l.rounds)
