-- The first programs are told.
use Rattle.std.proofs.Common.{take, ◌≡◌}
use Rattle.std.specs.Prelude.{map}
use Rattle.pm_script.specs.Replies.{program_seen}
use Rattle.pm_telling.specs.Telling.{programs_told}
use Rattle.pm_telling.proofs.held.programs_held.Given as goal

abbrev pub invariant-loop-place : goal.invariant-loop-place
invariant-loop-place l = map program_seen l.programs.items ≡ take l.place (programs_told l.object.state)
