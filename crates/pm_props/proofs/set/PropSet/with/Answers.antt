use Rattle.std.proofs.Common.{◌∙◌, ap, ◌||◌}
use Rattle.pm_props.specs.Sets.{has}
use Rattle.pm_props.proofs.set.PropSet.with.Goals as goal

pub returns-clause-members : goal.returns-clause-members
returns-clause-members c = λ q. c.union.ensures.members q ∙ ap (λ b. has c.args.self q || b) (c.of.ensures.only q)
