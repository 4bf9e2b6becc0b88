use Rattle.pm_clients_geom.proofs.RowLists.{few_first, few_listed, few_second, first_of_matrices, first_primitive, list_cols, second_of_matrices, second_primitive}
use Rattle.pm_clients_geom.proofs.lists.row_list.Goals as goal
use Rattle.pm_types.specs.Values.{matrix}
use Rattle.std.proofs.Common.{append-nil}

pub matrix_of-requires-clause-matrix : goal.matrix_of-requires-clause-matrix
matrix_of-requires-clause-matrix c = first_of_matrices c.args.first c.args.second c.requires.parts

pub matrix_of-requires-2-clause-matrix : goal.matrix_of-requires-2-clause-matrix
matrix_of-requires-2-clause-matrix c = second_of_matrices c.args.first c.args.second c.requires.parts

pub primitive_rows-requires-clause-few : goal.primitive_rows-requires-clause-few
primitive_rows-requires-clause-few c =
    few_first c.args.view.now.of c.args.view.now.cols c.matrix_of.result.now.cols c.matrix_of.result.now.rows
    c.args.first c.args.second c.requires.parts c.matrix_of.ensures.forms

pub primitive_rows-requires-2-clause-few : goal.primitive_rows-requires-2-clause-few
primitive_rows-requires-2-clause-few c =
    few_second c.args.view.now.of c.args.view.now.cols c.matrix_of-2.result.now.cols c.matrix_of-2.result.now.rows
    c.args.first c.args.second c.requires.parts c.matrix_of-2.ensures.forms

pub returns-clause-listed : goal.returns-clause-listed
returns-clause-listed c = record {
  first_cols = c.matrix_of.result.now.cols;
  second_cols = c.matrix_of-2.result.now.cols;
  first_rows = c.matrix_of.result.now.rows;
  second_rows = c.matrix_of-2.result.now.rows;
  reads_first = c.matrix_of.ensures.value;
  reads_second = c.matrix_of-2.ensures.value;
  xs = c.in_ok-rows.rows.items;
  ys = c.in_ok-more.more.items;
  first_primitive = c.in_ok-rows.ensures.rows;
  second_primitive = c.in_ok-more.ensures.rows;
  listed = rw (c.requires.nothing_added, append-nil) c.in_ok-append.ensures.items;
}

pub returns-clause-cols : goal.returns-clause-cols
returns-clause-cols c =
    list_cols c.args.view.now.of c.args.view.now.cols c.matrix_of.result.now.cols c.matrix_of-2.result.now.cols c.args.first c.args.second c.matrix_of.result.now.rows c.matrix_of-2.result.now.rows
    c.in_ok-rows.rows.items c.in_ok-more.more.items c.append.new.self.items c.requires.parts c.matrix_of.ensures.forms c.matrix_of-2.ensures.forms c.in_ok-rows.ensures.rows c.in_ok-more.ensures.rows c.in_ok-append.ensures.items

pub returns-clause-few : goal.returns-clause-few
returns-clause-few c =
    few_listed c.matrix_of.result.now.rows c.matrix_of-2.result.now.rows c.in_ok-rows.rows.items c.in_ok-more.more.items c.append.new.self.items
    (few_first c.args.view.now.of c.args.view.now.cols c.matrix_of.result.now.cols c.matrix_of.result.now.rows
    c.args.first c.args.second c.requires.parts c.matrix_of.ensures.forms)
    (few_second c.args.view.now.of c.args.view.now.cols c.matrix_of-2.result.now.cols c.matrix_of-2.result.now.rows
    c.args.first c.args.second c.requires.parts c.matrix_of-2.ensures.forms)
    c.in_ok-rows.ensures.rows c.in_ok-more.ensures.rows c.in_ok-append.ensures.items

pub primitive_rows-requires-clause-stay : goal.primitive_rows-requires-clause-stay
primitive_rows-requires-clause-stay c = first_primitive c.args.first c.args.second (matrix c.matrix_of.result.now.cols c.matrix_of.result.now.rows) c.requires.parts c.matrix_of.ensures.forms.primitive

pub primitive_rows-requires-2-clause-stay : goal.primitive_rows-requires-2-clause-stay
primitive_rows-requires-2-clause-stay c = second_primitive c.args.first c.args.second (matrix c.matrix_of-2.result.now.cols c.matrix_of-2.result.now.rows) c.requires.parts c.matrix_of-2.ensures.forms.primitive
