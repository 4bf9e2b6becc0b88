use Rattle.pm_dd.proofs.Negatives.{IsRowBuilt}
use Rattle.pm_dd.proofs.pairs.near_pairs.Given as goal
use Rattle.pm_dd.specs.Building.{IsBuilt, SeenPairs}
use Rattle.std.proofs.Common.{drop, length, ◌+◌, ◌≡◌, ◌≤◌}
use Rattle.pm_limits.specs.Limits.{most_rows}

abbrev pub invariant-loop-i : goal.invariant-loop-i
invariant-loop-i l = record {
  both_len : length l.both ≡ length l.rows;
  row_len : l.made.zeros.row_len ≡ length l.rows;
  few : l.kept + length l.made.rows.items ≤ most_rows;
  built : IsBuilt l.cols l.equations l.rows l.front l.rays.rows.items (SeenPairs l.i 0) l.made.rows.items l.made.zeros.rows;
}

abbrev pub invariant-loop-k : goal.invariant-loop-k
invariant-loop-k l = record {
  both_len : length l.both ≡ length l.rows;
  row_len : l.made.zeros.row_len ≡ length l.rows;
  few : l.kept + length l.made.rows.items ≤ most_rows;
  built : IsRowBuilt l.cols l.equations l.rows l.front l.rays.rows.items l.values l.i (drop l.k l.negatives) l.made.rows.items l.made.zeros.rows;
}
