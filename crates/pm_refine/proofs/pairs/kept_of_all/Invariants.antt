-- What is kept of the pairs so far.
use Rattle.pm_refine.proofs.pairs.kept_of_all.Given as goal
use Rattle.pm_refine.specs.CutRows.{cut_rows, intersection_of}
use Rattle.pm_refine.specs.Steps.{AreKeptBefore}
use Rattle.std.proofs.Common.{map}

abbrev pub invariant-loop-i : goal.invariant-loop-i
invariant-loop-i l = AreKeptBefore l.cols (map cut_rows l.firsts) (map cut_rows l.seconds) l.i 0 l.kept.lineality.items (map intersection_of l.kept.cones.items)
