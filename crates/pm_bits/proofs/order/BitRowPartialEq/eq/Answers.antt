use Rattle.std.proofs.Common.{sym, ◌∙◌}
use Rattle.pm_bits.proofs.Differences.{pointwise-tested, same_rows-tested}
use Rattle.pm_bits.proofs.order.BitRowPartialEq.eq.Goals as goal

pub returns-then-len-clause-value : goal.returns-then-len-clause-value
returns-then-len-clause-value c =
    pointwise-tested c.eq_lanes.result c.args.self.now c.args.other.now (sym c.len.ensures ∙ c.if-len.true ∙ c.len-2.ensures) c.eq_lanes.ensures

pub returns-then-len-clause-same : goal.returns-then-len-clause-same
returns-then-len-clause-same c =
    same_rows-tested c.eq_lanes.result c.args.self.now c.args.other.now (sym c.len.ensures ∙ c.if-len.true ∙ c.len-2.ensures) c.eq_lanes.ensures
