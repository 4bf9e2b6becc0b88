use Rattle.pm_bits.specs.Sets.{has}
use Rattle.pm_geom.specs.Graphs.{holds}
use Rattle.pm_graph.proofs.bits.row_of.Given as goal
use Rattle.std.proofs.Common.{length, take, ℕ, ◌≡◌}

abbrev pub invariant-loop-j : goal.invariant-loop-j
invariant-loop-j l = record {
  len : length l.row ≡ l.len;
  members : (k : ℕ) → has l.row k ≡ holds (take l.j-index l.set) k;
}
