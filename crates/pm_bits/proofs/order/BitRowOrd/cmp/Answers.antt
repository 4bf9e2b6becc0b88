use Rattle.std.proofs.Common.{sym, ◌∙◌}
use Rattle.pm_bits.proofs.Differences.{row_cmp-means}
use Rattle.pm_bits.proofs.order.BitRowOrd.cmp.Goals as goal

pub returns-then-len : goal.returns-then-len
returns-then-len c =
    row_cmp-means c.cmp_lanes.result c.args.self.now c.args.other.now (sym c.len.ensures ∙ c.if-len.true ∙ c.len-2.ensures) c.cmp_lanes.ensures.equal.0 c.cmp_lanes.ensures.less.0 c.cmp_lanes.ensures.greater.0
