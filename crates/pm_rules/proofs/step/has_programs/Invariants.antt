-- Those that were looked at are none of linear programs.
use Rattle.pm_props.proofs.Looks.{Looked}
use Rattle.pm_props.specs.Properties.{has_program}
use Rattle.pm_rules.proofs.step.has_programs.Given as goal

abbrev pub invariant-look : goal.invariant-look
invariant-look l = Looked has_program l.fn.set l.rest

abbrev pub decreases-look : goal.decreases-look
decreases-look l = l.rest
