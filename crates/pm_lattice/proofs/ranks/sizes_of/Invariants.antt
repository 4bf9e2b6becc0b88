use Rattle.pm_bits.specs.Sets.{member_count}
use Rattle.pm_lattice.specs.Ranks.{face_at, is_seen}
use Rattle.pm_lattice.proofs.ranks.sizes_of.Given as goal
use Rattle.std.proofs.Common.{IsTrue, length, ℕ, ◌+◌, ◌<◌, ◌≡◌}

abbrev pub invariant-loop-face : goal.invariant-loop-face
invariant-loop-face l = record {
  len : length l.seen.items ≡ l.len + 1;
  seen : (k : ℕ) → k < l.face-index → IsTrue (is_seen l.seen.items (member_count (face_at l.faces k)));
}
