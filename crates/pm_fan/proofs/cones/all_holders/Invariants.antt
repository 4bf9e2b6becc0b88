-- The places of each index so far.
use Rattle.pm_fan.proofs.cones.all_holders.Given as goal
use Rattle.pm_fan.specs.Fans.{has_members, holders_from}
use Rattle.std.proofs.Common.{map, ◌≡◌}
use Rattle.std.specs.List.{filter, range_with_len}

abbrev pub invariant-loop-index : goal.invariant-loop-index
invariant-loop-index l = map (λ s. s.items) l.cones.items ≡ map (holders_from 0 (filter has_members (map (λ s. s.items) l.sets))) (range_with_len 0 l.index)
