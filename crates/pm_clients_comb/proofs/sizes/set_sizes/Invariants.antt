-- The sizes of the sets so far.
use Rattle.pm_clients_comb.proofs.sizes.set_sizes.Given as goal
use Rattle.std.proofs.Common.{length, map, pos, take, ◌≡◌}

abbrev pub invariant-loop-set : goal.invariant-loop-set
invariant-loop-set l = l.sizes.items ≡ map (λ r. pos (length r.items)) (take l.set-index l.set-items)
