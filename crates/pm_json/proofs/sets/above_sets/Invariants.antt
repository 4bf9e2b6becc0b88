-- What is left, and what was seen.
use Rattle.std.proofs.Common.{◌≡◌, drop, map, max}
use Rattle.pm_json.specs.Readings.{above_sets}
use Rattle.pm_json.proofs.sets.above_sets.Given as goal

abbrev pub invariant-loop-set : goal.invariant-loop-set
invariant-loop-set l = above_sets (map (λ r. r.items) l.rows) ≡ max l.above (above_sets (map (λ r. r.items) (drop l.set-index l.rows)))
