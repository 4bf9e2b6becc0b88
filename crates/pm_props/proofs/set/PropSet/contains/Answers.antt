use Rattle.std.proofs.Common.{◌∙◌, ap}
use Rattle.pm_props.specs.Sets.{has}
use Rattle.pm_props.proofs.Members.{has_shifted}
use Rattle.pm_props.proofs.set.PropSet.contains.Goals as goal

pub returns : goal.returns
returns c =
    has_shifted c.self.inside.bits c.args.p c.number.result c.number.ensures.number ∙ ap (λ s. has s c.args.p) c.self.view_is
