use Rattle.pm_vector.proofs.Held.{difference_within, kept}
use Rattle.pm_vector.specs.WideInts.{value_of}
use Rattle.pm_wide_programs.proofs.slack.difference_of_products.Goals as goal

pub unreachable-requires : goal.unreachable-requires
unreachable-requires c =
    let first = rw (kept c.args.x c.ranges.x) at c.product-first.ensures in
    let second = rw (kept c.args.y c.ranges.y) at c.product-second.ensures in
    c.in_default.ensures.none (rw (first, second) (difference_within (value_of c.args.p) c.args.x (value_of c.args.q) c.args.y c.requires.p_factor c.ranges.x c.requires.q_factor c.ranges.y))
