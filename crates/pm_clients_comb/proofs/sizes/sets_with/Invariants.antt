-- The sets that are left have the place as often as is missing.
use Rattle.pm_clients_comb.proofs.sizes.sets_with.Given as goal
use Rattle.pm_relations.specs.Sizes.{holding}
use Rattle.std.proofs.Common.{drop, map, ◌+◌, ◌≡◌, ◌≤◌}

abbrev pub invariant-loop-set : goal.invariant-loop-set
invariant-loop-set l = (holding (map (λ r. r.items) l.set-items) l.place ≡ l.count + holding (drop l.set-index (map (λ r. r.items) l.set-items)) l.place) × (l.count ≤ l.set-index)
