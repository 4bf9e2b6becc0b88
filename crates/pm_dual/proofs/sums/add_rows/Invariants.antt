use Rattle.pm_vector.specs.Cones.{combination}
use Rattle.pm_vector.specs.Rows.{Same, plus}
use Rattle.pm_dual.proofs.sums.add_rows.Given as goal
use Rattle.std.proofs.Common.{drop, length, ◌≡◌}

abbrev pub invariant-loop-i : goal.invariant-loop-i
invariant-loop-i l = record {
  cols : length l.sum ≡ length l.initial.sum;
  sum : Same (plus l.sum (combination (drop l.i l.times) (drop l.i l.rows))) (plus l.initial.sum (combination l.times l.rows));
}
