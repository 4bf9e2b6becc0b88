use Rattle.pm_dd.proofs.first.first_rays.Given as goal
use Rattle.pm_dd.specs.Building.{AllBut}
use Rattle.pm_dd.specs.Tables.{zero_set}
use Rattle.pm_geom.specs.Faces.{ray}
use Rattle.std.proofs.Common.{length, ◌+◌, ◌<◌, ◌≡◌, ℕ}

abbrev pub invariant-loop-k : goal.invariant-loop-k
invariant-loop-k l = record {
  row_len : l.zeros.row_len ≡ length l.rows;
  rows_many : length l.made.items ≡ l.k;
  zeros_many : length l.zeros.rows ≡ l.k;
  rows : (i : ℕ) → i < l.k → ray l.made.items i ≡ ray l.duals.items (length l.equations + i);
  sets : (i : ℕ) → i < l.k → AllBut (length l.rows) l.start i (zero_set l.zeros.rows i);
}
