-- The facet rows of the cones so far.
use Rattle.pm_refine.proofs.Cuts.{AreFacetsSoFar}
use Rattle.pm_refine.proofs.cones.facets_of_cones.Given as goal
use Rattle.pm_refine.specs.CutRows.{cut_rows, fan_from}
use Rattle.std.proofs.Common.{map}

abbrev pub invariant-loop-i : goal.invariant-loop-i
invariant-loop-i l = AreFacetsSoFar l.cols (fan_from (map (λ c. c.items) l.cones) l.lines) l.i (map cut_rows l.made.items)
