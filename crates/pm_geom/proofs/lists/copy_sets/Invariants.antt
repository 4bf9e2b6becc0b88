use Rattle.std.proofs.Common.{◌≡◌}
use Rattle.std.specs.Prelude.{map, take}
use Rattle.pm_geom.proofs.lists.copy_sets.Given as goal

abbrev pub invariant-loop-set : goal.invariant-loop-set
invariant-loop-set l = map (λ r. r.items) l.made.items ≡ take l.set-index (map (λ r. r.items) l.sets)
