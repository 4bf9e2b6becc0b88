use Rattle.pm_simplex.proofs.dictionary.Dictionary.basis_columns.Given as goal
use Rattle.std.proofs.Common.{take, ◌≡◌}

abbrev pub invariant-loop-i : goal.invariant-loop-i
invariant-loop-i l = l.columns.items ≡ take l.i l.self.basis.items
