use Rattle.std.proofs.Common.{◌≢◌, ◌≤◌, ◌-◌, ℕ, ◌<◌, get_or, length}
use Rattle.pm_bits.specs.Words.{IsWithin}
use Rattle.pm_bits.proofs.words.other_contains.Given as goal

abbrev pub invariant-loop-k : goal.invariant-loop-k
invariant-loop-k l = record {
  end : l.k ≤ length l.words;
  here : l.k < length l.words → IsWithin (get_or l.words l.k 0) l.s;
  before : (m : ℕ) → m < l.k → m ≢ l.i → m ≢ l.j → IsWithin (get_or l.words m 0) l.s → ⊥;
}

abbrev pub decreases-loop-k : goal.decreases-loop-k
decreases-loop-k l = length l.words - l.k
