-- Those that were looked at have not the tag.
use Rattle.pm_props.proofs.Looks.{Looked}
use Rattle.pm_rules.specs.Steps.{tag_test}
use Rattle.pm_rules.proofs.step.Tag.is_in.Given as goal

abbrev pub invariant-look : goal.invariant-look
invariant-look l = Looked (tag_test l.self) l.fn.set l.rest

abbrev pub decreases-look : goal.decreases-look
decreases-look l = l.rest
