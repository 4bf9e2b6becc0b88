use Rattle.pm_fraction.proofs.PrimitiveRows.{PrimitiveSoFar}
use Rattle.pm_fraction.proofs.matrix.Matrix.to_primitive_rows.Given as goal

abbrev pub invariant-loop-i : goal.invariant-loop-i
invariant-loop-i l = PrimitiveSoFar l.self.rows l.i l.rows.items
