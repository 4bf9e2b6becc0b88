use Rattle.pm_bits.specs.Sets.{has}
use Rattle.pm_geom.specs.Meets.{HasMeetChain}
use Rattle.pm_lattice.proofs.Ranking.{Bars}
use Rattle.pm_lattice.specs.Closures.{bit_sets}
use Rattle.pm_lattice.specs.Ranks.{face_at}
use Rattle.pm_lattice.proofs.ranks.rank_of.Given as goal
use Rattle.std.proofs.Common.{length, ℕ, ◌+◌, ◌<◌, ◌≡◌, ◌≤◌}

abbrev pub invariant-loop-i : goal.invariant-loop-i
invariant-loop-i l = record {
  part_len : length l.part ≡ l.rows.row_len;
  small : l.rank ≤ l.rows.row_len + 1;
  chain : HasMeetChain l.rows.row_len (bit_sets l.rows.rows) l.rank (has (face_at l.faces l.fn.place));
  bars : (k : ℕ) → k < l.i → Bars l.rows.row_len l.rows.rows (face_at l.faces l.fn.place) l.rank (face_at l.rows.rows k);
}
