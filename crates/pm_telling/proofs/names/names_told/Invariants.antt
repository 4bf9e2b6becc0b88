-- The first programs have their names.
use Rattle.std.proofs.Common.{take, ◌≡◌}
use Rattle.pm_telling.specs.Telling.{rules_told}
use Rattle.pm_script.specs.Replies.{names_seen}
use Rattle.pm_telling.proofs.names.names_told.Given as goal

abbrev pub invariant-loop-place : goal.invariant-loop-place
invariant-loop-place l = names_seen l.names ≡ record { rules = (rules_told l.rules).rules; programs = take l.place l.object.state.programs }
