use Rattle.std.proofs.Common.{ap, sym, ◌∙◌}
use Rattle.pm_fraction.proofs.Machine.{decoded, decoded_quotient, exact_quotient}
use lib.IntN.{ℤ, ◌*ℤ◌}
use Rattle.pm_fraction.proofs.whole.Whole.exact.Goals as goal

pub returns-clause-factor : goal.returns-clause-factor
returns-clause-factor c =
    let a_is = decoded c.get-a.result c.args.self c.get-a.ensures.value c.get-a.ensures.in_range in
    let g_is = decoded c.get-g.result c.args.divisor c.get-g.ensures.value c.get-g.ensures.in_range in
    exact_quotient c.args.self c.args.divisor c.requires.positive c.requires.divides
    ∙ ap (λ (z : ℤ). c.args.divisor *ℤ z) (sym (decoded_quotient c.get-a.result c.get-g.result c.args.self c.args.divisor a_is g_is c.get-a.ensures.in_range c.requires.positive))
