use Rattle.std.proofs.Common.{◌∙◌, ap}
use Rattle.pm_props.specs.Sets.{has}
use Rattle.pm_props.proofs.Members.{only_shifted, has-only}
use Rattle.pm_props.proofs.set.PropSet.of.Goals as goal

pub returns-clause-value : goal.returns-clause-value
returns-clause-value c = only_shifted c.args.p c.number.result c.number.ensures.number

pub returns-clause-only : goal.returns-clause-only
returns-clause-only c = λ q. ap (λ s. has s q) (only_shifted c.args.p c.number.result c.number.ensures.number) ∙ has-only c.args.p q
