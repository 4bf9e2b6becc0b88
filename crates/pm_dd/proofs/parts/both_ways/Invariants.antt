use Rattle.pm_dd.specs.Fronts.{both_signs}
use Rattle.pm_dd.proofs.parts.both_ways.Given as goal
use Rattle.std.proofs.Common.{drop, ◌++◌, ◌≡◌}

abbrev pub invariant-loop-row : goal.invariant-loop-row
invariant-loop-row l = l.made.items ++ both_signs (drop l.row-index l.rows) ≡ both_signs l.rows
