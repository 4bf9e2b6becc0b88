use Rattle.pm_dd.proofs.run.all_rays.Given as goal
use Rattle.pm_dd.specs.Form.{AreReduced}
use Rattle.pm_dd.specs.Tables.{IsRayTable}
use Rattle.std.proofs.Common.{length, take, ◌++◌, ◌≡◌, ◌≤◌}
use Rattle.pm_limits.specs.Limits.{most_rows}

abbrev pub invariant-loop-front : goal.invariant-loop-front
invariant-loop-front l = record {
  from : l.start ≤ l.front;
  row_len : l.rays.zeros.row_len ≡ length l.rows;
  few : length l.rays.rows.items ≤ most_rows;
  reduced : AreReduced l.cols (l.equations ++ take l.start l.rows) l.rays.rows.items;
  table : IsRayTable l.cols l.equations l.rows l.front l.rays.rows.items l.rays.zeros.rows;
}
