use Rattle.pm_clients_lp.proofs.Facts.{stay_of}
use Rattle.pm_clients_lp.proofs.reading.rows_of.Goals as goal
use Rattle.pm_types.specs.Values.{matrix}

pub primitive_rows-requires-clause-stay : goal.primitive_rows-requires-clause-stay
primitive_rows-requires-clause-stay c = stay_of c.args.p c.requires.rows (matrix c.matrix_of.result.now.cols c.matrix_of.result.now.rows) c.matrix_of.ensures.forms.primitive
