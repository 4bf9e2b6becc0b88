-- What is kept of the pairs so far.
use Rattle.pm_refine.proofs.pairs.with_cone.Given as goal
use Rattle.pm_refine.specs.CutRows.{cut_rows, intersection_of}
use Rattle.pm_refine.specs.Steps.{AreKeptBefore}
use Rattle.std.proofs.Common.{map}

abbrev pub invariant-loop-j : goal.invariant-loop-j
invariant-loop-j l = AreKeptBefore l.cols (map cut_rows l.firsts) (map cut_rows l.seconds) l.i l.j l.lineality.items (map intersection_of l.cones.items)
