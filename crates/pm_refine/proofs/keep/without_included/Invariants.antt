-- Those left are the ones so far that are not included; the others are still to come.
use Rattle.pm_refine.proofs.keep.without_included.Given as goal
use Rattle.pm_refine.specs.CutRows.{cut_rows, intersection_of}
use Rattle.pm_refine.specs.Steps.{not_included_in}
use Rattle.std.proofs.Common.{map, ◌++◌, ◌≡◌}
use Rattle.std.specs.Vec.Iter.{into_iter_items}

abbrev pub invariant-loop-k : goal.invariant-loop-k
invariant-loop-k l = (l.yielded ++ into_iter_items l.k-iterator ≡ l.fn.kept.items) × (map intersection_of l.left.items ≡ not_included_in (cut_rows l.first) (cut_rows l.second) (map intersection_of l.yielded))
