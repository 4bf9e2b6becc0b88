use Rattle.std.proofs.Common.{ℕ, ◌<◌, ◌≤◌, get_or}
use Rattle.pm_bits.specs.Words.{IsWithin}
use Rattle.pm_bits.proofs.words.next_containing.Given as goal

abbrev pub invariant-loop-k : goal.invariant-loop-k
invariant-loop-k l = (m : ℕ) → l.start ≤ m → m < l.k → IsWithin (get_or l.words m 0) l.s → ⊥
