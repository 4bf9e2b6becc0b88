use Rattle.pm_vector.proofs.Held.{factor_within, kept}
use Rattle.pm_vector.proofs.wide_combination.product.Goals as goal
use Rattle.pm_vector.specs.WideInts.{value_of}

pub unreachable-requires : goal.unreachable-requires
unreachable-requires c =
    let second = rw (kept c.args.x c.ranges.x) at c.of.ensures in
    c.in_default.ensures.none (rw second (factor_within (value_of c.args.p) c.args.x c.requires c.ranges.x))
