use Rattle.pm_fraction.proofs.Tables.{row_length}
use Rattle.pm_fraction.proofs.matrix.Matrix.row.Goals as goal

pub returns-clause-len : goal.returns-clause-len
returns-clause-len c =
    rw (c.deref.ensures.value, ← c.self.view_is)
    (row_length (λ r. r.items) c.self.inside.cols c.self.inside.rows.items c.args.i c.index.result.now c.self.invariant.shape (rw (← c.self.view_is) at c.requires) c.index.ensures)
