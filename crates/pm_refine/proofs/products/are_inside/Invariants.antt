use Rattle.pm_vector.specs.Rows.{Row}
use Rattle.pm_laws_normal_fans.specs.Refinements.{InHalfSpaces}
use Rattle.pm_refine.proofs.products.are_inside.Given as goal
use Rattle.std.proofs.Common.{take}
use Rattle.std.specs.List.{AllByRecursion}

abbrev pub invariant-loop-ray : goal.invariant-loop-ray
invariant-loop-ray l = AllByRecursion (λ (v : Row). InHalfSpaces l.cone.facets.items l.cone.hull.items v) (take l.ray-index l.of.rays.items)
