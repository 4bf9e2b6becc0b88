use Rattle.pm_vector.proofs.wide_combination.differences.Given as goal
use Rattle.pm_vector.specs.Rows.{difference}
use Rattle.pm_vector.specs.WideInts.{value_of}
use Rattle.std.proofs.Common.{map, take, ◌≡◌}

abbrev pub invariant-loop-i : goal.invariant-loop-i
invariant-loop-i l = map value_of l.made.items ≡ take l.i (difference (value_of l.p) l.v (value_of l.q) l.w)
