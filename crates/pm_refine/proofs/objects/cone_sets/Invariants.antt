-- The sets so far.
use Rattle.pm_refine.proofs.objects.cone_sets.Given as goal
use Rattle.std.proofs.Common.{drop, map, ◌++◌, ◌≡◌}

abbrev pub invariant-loop-set : goal.invariant-loop-set
invariant-loop-set l = map (λ s. s.items) l.made.items ++ map (λ s. s.items) (drop l.set-index l.sets) ≡ map (λ s. s.items) l.sets
