use Rattle.pm_build.proofs.RowLaws.{set_unit}
use Rattle.pm_build.proofs.rows.unit_row.Goals as goal

pub returns : goal.returns
returns c = rw c.in_ok-row.ensures (set_unit c.args.s c.args.i c.args.d c.requires.whole c.requires.within)
