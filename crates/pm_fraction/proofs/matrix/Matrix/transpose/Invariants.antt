use Rattle.pm_fraction.proofs.Tables.{TransposedSoFar}
use Rattle.pm_fraction.proofs.matrix.Matrix.transpose.Given as goal
use Rattle.std.proofs.Common.{map}

abbrev pub invariant-loop-j : goal.invariant-loop-j
invariant-loop-j l = TransposedSoFar l.self l.j (map (λ r. r.items) l.transposed.items)
