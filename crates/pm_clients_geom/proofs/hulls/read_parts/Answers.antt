use Rattle.pm_clients_geom.proofs.RowLists.{first_primitive, first_rows_few, second_primitive, second_rows_few}
use Rattle.pm_clients_geom.proofs.hulls.read_parts.Goals as goal
use Rattle.pm_types.specs.Values.{matrix}

pub returns-clause-first_few : goal.returns-clause-first_few
returns-clause-first_few c =
    first_rows_few c.args.view.now.of c.args.view.now.cols c.matrix_of.result.now.cols c.matrix_of.result.now.rows c.args.first c.args.second c.requires.parts c.in_ok-lines.lines.items
    c.in_ok-lines.ensures.rows c.matrix_of.ensures.forms

pub returns-clause-second_few : goal.returns-clause-second_few
returns-clause-second_few c =
    second_rows_few c.args.view.now.of c.args.view.now.cols c.matrix_of-2.result.now.cols c.matrix_of-2.result.now.rows c.args.first c.args.second c.requires.parts c.in_ok-others.others.items
    c.in_ok-others.ensures.rows c.matrix_of-2.ensures.forms

pub primitive_rows-requires-clause-stay : goal.primitive_rows-requires-clause-stay
primitive_rows-requires-clause-stay c = first_primitive c.args.first c.args.second (matrix c.matrix_of.result.now.cols c.matrix_of.result.now.rows) c.requires.parts c.matrix_of.ensures.forms.primitive

pub primitive_rows-requires-2-clause-stay : goal.primitive_rows-requires-2-clause-stay
primitive_rows-requires-2-clause-stay c = second_primitive c.args.first c.args.second (matrix c.matrix_of-2.result.now.cols c.matrix_of-2.result.now.rows) c.requires.parts c.matrix_of-2.ensures.forms.primitive
