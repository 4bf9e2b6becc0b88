use Rattle.pm_props.proofs.Members.{has-empty}
use Rattle.pm_props.proofs.set.PropSet.empty.Goals as goal

pub returns-clause-none : goal.returns-clause-none
returns-clause-none c = has-empty
