use Rattle.pm_graph.proofs.bits.mark.Given as goal
use Rattle.pm_graph.specs.Tables.{IsMarked}
use Rattle.std.proofs.Common.{[], length, slice_index_or, take, ℕ, ◌≡◌}

abbrev pub invariant-loop-j : goal.invariant-loop-j
invariant-loop-j l = record {
  lengths : (j : ℕ) → length (slice_index_or l.rows j []) ≡ length (slice_index_or l.initial.rows j []);
  marked : IsMarked (take l.j-index l.set) l.place l.initial.rows l.rows;
}
