use Rattle.pm_object.proofs.KnownValues.{held_forms, matrix_is, no_matrix}
use Rattle.pm_object.proofs.known.matrix_at.Goals as goal
use Rattle.pm_types.specs.Values.{matrix}
use Rattle.pm_types.specs.Views.{view_of}
use Rattle.std.proofs.Common.{Some, ap, sym, ◌∙◌}

pub unreachable-requires-in_default-as_matrix : goal.unreachable-requires-in_default-as_matrix
unreachable-requires-in_default-as_matrix c = no_matrix c.args.o.now.state c.args.p (view_of c.in-Some.value.now) c.requires.rows c.lookup.ensures.formed c.requires.known c.in-Some.ensures.value c.in_default-as_matrix.ensures

pub returns-clause-forms : goal.returns-clause-forms
returns-clause-forms c =
    let m = c.in-Some-as_matrix.matrix.now in
    let is = matrix_is (view_of c.in-Some.value.now) (matrix m.cols m.rows) c.in-Some-as_matrix.ensures in
    held_forms c.args.o.now.state c.args.p (matrix m.cols m.rows) c.lookup.ensures.formed c.requires.known (sym c.in-Some.ensures.value ∙ ap Some is)
