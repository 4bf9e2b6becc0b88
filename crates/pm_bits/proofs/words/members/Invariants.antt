use Rattle.pm_bits.proofs.words.members.Given as goal
use Rattle.pm_bits.specs.Words.{has_bit}
use Rattle.std.proofs.Common.{◌*◌, ◌≡◌}
use Rattle.std.specs.List.{filter, range_with_len}

abbrev pub invariant-loop-k : goal.invariant-loop-k
invariant-loop-k l = l.list.items ≡ filter (has_bit l.words) (range_with_len 0 (l.k * 64))
