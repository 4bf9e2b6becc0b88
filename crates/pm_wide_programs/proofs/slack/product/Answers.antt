use Rattle.pm_vector.proofs.Held.{factor_within, kept}
use Rattle.pm_vector.specs.WideInts.{value_of}
use Rattle.pm_wide_programs.proofs.slack.product.Goals as goal

pub unreachable-requires : goal.unreachable-requires
unreachable-requires c =
    let second = rw (kept c.args.x c.ranges.x) at c.of.ensures in
    c.in_default.ensures.none (rw second (factor_within (value_of c.args.p) c.args.x c.requires c.ranges.x))
