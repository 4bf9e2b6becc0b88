-- the rows of the sets so far
use Rattle.pm_vector.specs.Rows.{HasCols}
use Rattle.pm_incidence.proofs.Determined.{AreFound}
use Rattle.pm_incidence.proofs.from_sets.rays_of_sets.Given as goal
use Rattle.std.proofs.Common.{map, take}

abbrev pub invariant-loop-set : goal.invariant-loop-set
invariant-loop-set l = HasCols l.cols l.rows.items × AreFound l.cols l.equations l.cuts l.pivots.items (map (λ r. r.items) (take l.set-index l.sets)) l.rows.items
