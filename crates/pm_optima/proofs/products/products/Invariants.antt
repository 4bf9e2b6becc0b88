use Rattle.pm_vector.specs.Rows.{dot}
use Rattle.pm_optima.proofs.products.products.Given as goal
use Rattle.std.proofs.Common.{map, take, ◌≡◌}

abbrev pub invariant-loop-x : goal.invariant-loop-x
invariant-loop-x l = l.numbers ≡ map (dot l.row) (take l.x-index l.rows)
