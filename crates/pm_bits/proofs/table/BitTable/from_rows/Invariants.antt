use Rattle.pm_bits.proofs.table.BitTable.from_rows.Given as goal
use Rattle.std.proofs.Common.{◌≡◌}

abbrev pub invariant-loop-row : goal.invariant-loop-row
invariant-loop-row l = record {
  len : l.table.row_len ≡ l.row_len;
  rows : l.table.rows ≡ l.yielded;
}
