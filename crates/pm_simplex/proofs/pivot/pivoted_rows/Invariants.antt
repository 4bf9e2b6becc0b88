use Rattle.pm_simplex.proofs.pivot.pivoted_rows.Given as goal
use Rattle.pm_programs.specs.Dictionaries.{IsRowAfter, row_of}
use Rattle.std.proofs.Common.{length, map, ℕ, ◌<◌, ◌≡◌}

abbrev pub invariant-loop-i : goal.invariant-loop-i
invariant-loop-i l = record {
  count : length (map (λ r. r.items) l.after.items) ≡ l.i;
  rows : (i : ℕ) → i < l.i → IsRowAfter l.cols (map (λ r. r.items) l.rows) l.l l.j l.new.items i (row_of (map (λ r. r.items) l.after.items) i);
}
