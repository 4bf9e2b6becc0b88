use Rattle.pm_lattice.proofs.lists.table_of.Given as goal
use Rattle.pm_geom.specs.Graphs.{sets_of}
use Rattle.pm_lattice.specs.Closures.{bit_sets}
use Rattle.std.proofs.Common.{take, ◌≡◌}

abbrev pub invariant-loop-set : goal.invariant-loop-set
invariant-loop-set l = record {
  len : l.table.row_len ≡ l.s.cols;
  rows : bit_sets l.table.rows ≡ sets_of (take l.set-index l.s.rows);
}
