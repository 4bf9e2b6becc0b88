use Rattle.pm_lattice.proofs.closure.copies_of.Given as goal
use Rattle.std.proofs.Common.{length, take, ◌≡◌}
use Rattle.std.specs.List.{All}

abbrev pub invariant-loop-place : goal.invariant-loop-place
invariant-loop-place l = record {
  lengths : All (λ row. length row ≡ l.rows.row_len) l.list.items;
  rows : l.list.items ≡ take l.place l.rows.rows;
}
