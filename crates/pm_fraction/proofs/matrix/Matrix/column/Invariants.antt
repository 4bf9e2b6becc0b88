use Rattle.pm_vector.specs.Rows.{ratio_at}
use Rattle.pm_fraction.specs.Matrices.{IsFraction}
use Rattle.pm_fraction.proofs.matrix.Matrix.column.Given as goal
use Rattle.std.proofs.Common.{map, take, ◌≡◌}
use Rattle.std.specs.Prelude.{All}

abbrev pub invariant-loop-i : goal.invariant-loop-i
invariant-loop-i l = record {
  items : l.column.items ≡ map (λ r. ratio_at r l.j) (take l.i l.self.rows);
  entries : All IsFraction l.column.items;
}
