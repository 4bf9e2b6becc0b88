-- The answer is that for the kept ones that are left.
use Rattle.pm_refine.proofs.keep.includes_any.Given as goal
use Rattle.pm_refine.specs.CutRows.{cut_rows, intersection_of}
use Rattle.pm_refine.specs.Steps.{includes_any_of}
use Rattle.std.proofs.Common.{drop, map, ◌≡◌}

abbrev pub invariant-loop-k : goal.invariant-loop-k
invariant-loop-k l = includes_any_of (map cut_rows l.firsts) (map cut_rows l.seconds) (map intersection_of (drop l.k-index l.kept)) (intersection_of l.new) ≡ includes_any_of (map cut_rows l.firsts) (map cut_rows l.seconds) (map intersection_of l.kept) (intersection_of l.new)
