use Rattle.pm_programs.specs.Dictionaries.{row_of}
use Rattle.pm_simplex.proofs.start.start_rows.Given as goal
use Rattle.pm_simplex.specs.Starts.{IsStartRow}
use Rattle.std.proofs.Common.{length, map, ℕ, ◌<◌, ◌≡◌}

abbrev pub invariant-loop-i : goal.invariant-loop-i
invariant-loop-i l = record {
  count : length (map (λ r. r.items) l.rows.items) ≡ l.i;
  rows : (i : ℕ) → i < l.i → IsStartRow l.y l.a l.b l.c i (row_of (map (λ r. r.items) l.rows.items) i);
}
