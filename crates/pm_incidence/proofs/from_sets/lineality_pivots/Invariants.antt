-- the equations, and the cuts so far
use Rattle.pm_incidence.proofs.from_sets.lineality_pivots.Given as goal
use Rattle.std.proofs.Common.{take, ◌++◌, ◌≡◌}

abbrev pub invariant-loop-cut : goal.invariant-loop-cut
invariant-loop-cut l = l.rows.items ≡ l.equations ++ take l.cut-index l.cuts
