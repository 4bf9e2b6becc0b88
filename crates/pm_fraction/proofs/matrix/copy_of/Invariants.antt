use Rattle.pm_fraction.specs.Matrices.{IsFraction}
use Rattle.pm_fraction.proofs.matrix.copy_of.Given as goal
use Rattle.std.proofs.Common.{take, ◌≡◌}
use Rattle.std.specs.Prelude.{All}

abbrev pub invariant-loop-i : goal.invariant-loop-i
invariant-loop-i l = record {
  items : l.copy.items ≡ take l.i l.row;
  entries : All IsFraction l.copy.items;
}
