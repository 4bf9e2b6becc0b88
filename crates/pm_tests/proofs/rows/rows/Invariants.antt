-- The rows so far have so many entries.
use Rattle.pm_tests.proofs.rows.rows.Given as goal
use Rattle.pm_vector.specs.Rows.{HasCols}

abbrev pub invariant-loop-entries : goal.invariant-loop-entries
invariant-loop-entries g l = HasCols l.cols l.rows.items
