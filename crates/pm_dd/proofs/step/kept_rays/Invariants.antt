use Rattle.pm_dd.proofs.Moving.{AreMoved}
use Rattle.pm_dd.proofs.step.kept_rays.Given as goal
use Rattle.pm_dd.specs.Building.{kept_count}
use Rattle.std.proofs.Common.{length, take, ◌≡◌}

abbrev pub invariant-loop-i : goal.invariant-loop-i
invariant-loop-i l = record {
  row_len : l.zeros.row_len ≡ length l.rows;
  count : l.kept ≡ kept_count (take l.i l.values);
  moved : AreMoved l.cols l.equations l.rows l.front l.fn.rays.rows.items l.fn.rays.zeros.rows l.i l.kept l.made.items l.zeros.rows;
}
