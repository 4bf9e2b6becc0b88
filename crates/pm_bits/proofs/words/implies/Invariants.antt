use Rattle.std.proofs.Common.{ℕ, ◌<◌, get_or}
use Rattle.pm_bits.specs.Words.{IsWithin}
use Rattle.pm_bits.proofs.words.implies.Given as goal

abbrev pub invariant-loop-k : goal.invariant-loop-k
invariant-loop-k l = (m : ℕ) → m < l.k → IsWithin (get_or l.words m 0) l.s → IsWithin (get_or l.words m 0) l.t
