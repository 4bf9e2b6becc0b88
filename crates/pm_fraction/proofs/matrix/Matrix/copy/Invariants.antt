use Rattle.pm_fraction.proofs.matrix.Matrix.copy.Given as goal
use Rattle.std.proofs.Common.{map, take, ◌≡◌}

abbrev pub invariant-loop-i : goal.invariant-loop-i
invariant-loop-i l = map (λ r. r.items) l.rows.items ≡ take l.i l.self.rows
