-- The heights are the one row of the matrix that the view reads.
use Rattle.pm_clients_lift.proofs.FoundLifted.{heights_read, heights_row}
use Rattle.pm_clients_lift.proofs.lifts.read_heights.Goals as goal
use Rattle.std.proofs.Common.{arith}

pub row-requires : goal.row-requires
row-requires c =
    let one = heights_row c.args.view.now.of c.args.view.now.cols c.matrix_of.result.now.cols c.matrix_of.result.now.rows c.matrix_of.ensures.forms in
    omega arith

pub returns-clause-read : goal.returns-clause-read
returns-clause-read c =
    rw c.row.ensures.value (heights_read c.args.view.now c.matrix_of.result.now.cols c.matrix_of.result.now.rows c.matrix_of.ensures.value c.matrix_of.ensures.forms).reads

pub returns-clause-fractions : goal.returns-clause-fractions
returns-clause-fractions c =
    rw c.row.ensures.value (heights_read c.args.view.now c.matrix_of.result.now.cols c.matrix_of.result.now.rows c.matrix_of.ensures.value c.matrix_of.ensures.forms).fractions
