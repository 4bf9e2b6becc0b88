use Rattle.pm_types.proofs.OverFirst.{makes_fraction}
use Rattle.pm_types.proofs.fractions.quotient.Goals as goal
use Rattle.pm_vector.proofs.Kept.{kept}
use Rattle.std.proofs.Common.{Err, ap}

pub unreachable-requires : goal.unreachable-requires
unreachable-requires c = c.in_default.ensures.wide.1 (rw (kept c.args.number c.requires.in_range) c.requires.in_range)

pub unreachable-requires-in_default-new : goal.unreachable-requires-in_default-new
unreachable-requires-in_default-new c =
    let k = rw (kept c.args.number c.requires.in_range, kept c.args.first c.requires.first_in_range) at c.in_default-new.ensures in
    makes_fraction c.args.number c.args.first c.in_default-new.field-0 c.requires.positive c.requires.in_range c.requires.first_in_range
    k.errors (λ e. k.zero.0 (ap (λ z. Err z) e)) (λ e. k.wide (ap (λ z. Err z) e))

pub returns : goal.returns
returns c = rw (kept c.args.number c.requires.in_range, kept c.args.first c.requires.first_in_range) at c.in-Ok-new.ensures.ok
