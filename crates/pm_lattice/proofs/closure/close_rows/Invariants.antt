use Rattle.pm_lattice.proofs.Closing.{Closing}
use Rattle.pm_lattice.proofs.closure.close_rows.Given as goal
use Rattle.pm_lattice.specs.Parts.{AreOpen}
use Rattle.std.proofs.Common.{length, ◌≡◌}
use Rattle.std.specs.BTreeMap.{keys}

abbrev pub invariant-loop-turn : goal.invariant-loop-turn
invariant-loop-turn l = record {
  closing : Closing l.rows.row_len l.rows.rows l.faces.items (keys l.pending);
  places : AreOpen l.rows l.pending.entries;
  part_len : length l.part ≡ l.rows.row_len;
  turns : length l.faces.items ≡ l._turn;
}
