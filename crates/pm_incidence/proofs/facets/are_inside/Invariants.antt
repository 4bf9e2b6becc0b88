use Rattle.pm_vector.specs.Rows.{Row}
use Rattle.pm_dd.specs.Fronts.{HalfSpaces}
use Rattle.pm_incidence.proofs.facets.are_inside.Given as goal
use Rattle.pm_incidence.specs.Thinning.{half_spaces}
use Rattle.std.proofs.Common.{take}
use Rattle.std.specs.List.{AllByRecursion}

abbrev pub invariant-loop-ray : goal.invariant-loop-ray
invariant-loop-ray l = AllByRecursion (λ (v : Row). HalfSpaces l.equations (half_spaces l.of l.cols l.rows) v) (take l.ray-index l.rays)
