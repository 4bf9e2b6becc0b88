use Rattle.pm_lattice.proofs.Opening.{Opening}
use Rattle.pm_lattice.proofs.closure.open_parts.Given as goal
use Rattle.std.proofs.Common.{length, ◌≡◌}
use Rattle.std.specs.BTreeMap.{keys}

abbrev pub invariant-loop-place : goal.invariant-loop-place
invariant-loop-place l = record {
  part_len : length l.part ≡ l.rows.row_len;
  opening : Opening l.rows l.face (keys l.fn.pending) l.pending.entries l.place;
}
