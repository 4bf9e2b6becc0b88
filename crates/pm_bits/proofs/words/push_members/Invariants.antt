use Rattle.pm_bits.proofs.words.push_members.Given as goal
use Rattle.pm_bits.specs.Words.{has_bit}
use Rattle.std.proofs.Common.{get_or, ◌*◌, ◌+◌, ◌-◌, ◌/◌, ◌^◌, ◌≡◌, ◌≤◌}
use Rattle.std.specs.List.{filter, range_with_len}

abbrev pub invariant-loop-rest : goal.invariant-loop-rest
invariant-loop-rest l = record {
  from : l.k * 64 ≤ l.next;
  to : l.next ≤ l.k * 64 + 64;
  left : l.rest ≡ get_or l.words l.k 0 / 2 ^ (l.next - l.k * 64);
  list : l.list.items ≡ filter (has_bit l.words) (range_with_len 0 l.next);
}

abbrev pub decreases-loop-rest : goal.decreases-loop-rest
decreases-loop-rest l = l.k * 64 + 64 - l.next
