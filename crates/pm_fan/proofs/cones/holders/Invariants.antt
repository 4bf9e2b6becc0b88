-- The places found so far, before those of the sets that are left.
use Rattle.pm_fan.proofs.cones.holders.Given as goal
use Rattle.pm_fan.specs.Fans.{has_members, holders_from}
use Rattle.std.proofs.Common.{drop, map, ◌++◌, ◌≡◌, ◌≤◌}
use Rattle.std.specs.List.{filter}

abbrev pub invariant-loop-set : goal.invariant-loop-set
invariant-loop-set l = record {
  places : holders_from 0 (filter has_members (map (λ s. s.items) l.sets)) l.index ≡ l.places.items ++ holders_from l.place (filter has_members (map (λ s. s.items) (drop l.set-index l.sets))) l.index;
  few : l.place ≤ l.set-index;
}
