use Rattle.std.proofs.Common.{◌≡◌, ◌∙◌, ap, rules}
use Rattle.pm_props.specs.Sets.{has}
use Rattle.pm_props.proofs.Members.{has_shifted}
use Rattle.pm_printed.proofs.number.has_bit.Goals as goal

pub returns : goal.returns
returns c =
    let same : c.from.result ≡ c.args.bits = search rules in
    has_shifted c.from.result c.args.p c.number.result c.number.ensures.number ∙ ap (λ s. has s c.args.p) same
