use Rattle.pm_redund.proofs.Supported.{above_out}
use Rattle.pm_redund.proofs.support.is_line.Goals as goal
use Rattle.std.proofs.Common.{false, true, ◌≡◌}

pub returns-then-is_above-clause-line : goal.returns-then-is_above-clause-line
returns-then-is_above-clause-line c = (
  λ t. absurd (let e : false ≡ true = t in cc),
  λ h. absurd (above_out c.args.cols c.args.rows.now c.args.lines.now c.args.support.now c.requires.support c.args.i c.requires.place (c.is_above.ensures c.if-is_above.true) h),
)
