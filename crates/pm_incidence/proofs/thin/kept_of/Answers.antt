use Rattle.std.proofs.Common.{arith}
use Rattle.pm_incidence.proofs.Groups.{group_cols, group_few, group_is, wide_group}
use Rattle.pm_incidence.proofs.Lost.{group_lost}
use Rattle.pm_incidence.proofs.ThinFails.{ranged_elimination, thin_of_elimination}
use Rattle.pm_incidence.proofs.thin.kept_of.Goals as goal
use Rattle.std.proofs.lemmas.Result.{err_from_is_err_and}

pub echelon_by-requires-clause-columns : goal.echelon_by-requires-clause-columns
echelon_by-requires-clause-columns c =
    let group = rw c.deref.ensures.value at c.in_ok-group.ensures in
    rw c.deref-2.ensures.value (group_cols c.args.rows.now c.args.cuts.now c.in_ok-zeros.zeros.rows c.in_ok-marks.marks.items c.in_ok-zeros.ensures.zeros c.in_ok-marks.ensures c.args.cols c.args.lines.now c.in_ok-group.group.items c.requires.row_cols c.requires.line_cols group)

pub echelon_by-requires-clause-few_rows : goal.echelon_by-requires-clause-few_rows
echelon_by-requires-clause-few_rows c =
    let group = rw c.deref.ensures.value at c.in_ok-group.ensures in
    rw c.deref-2.ensures.value (group_few c.args.rows.now c.args.cuts.now c.in_ok-zeros.zeros.rows c.in_ok-marks.marks.items c.in_ok-zeros.ensures.zeros c.in_ok-marks.ensures c.args.lines.now c.in_ok-group.group.items c.requires.few_rows c.requires.few_lines group)

pub returns-clause-kept : goal.returns-clause-kept
returns-clause-kept c =
    let group = rw c.deref.ensures.value at c.in_ok-group.ensures in
    record {
      basis = rw (c.deref-2.ensures.value, group_is c.args.rows.now c.args.cuts.now c.in_ok-zeros.zeros.rows c.in_ok-marks.marks.items c.in_ok-zeros.ensures.zeros c.in_ok-marks.ensures c.args.lines.now c.in_ok-group.group.items group) at c.in_ok-basis.ensures.basis;
      sets = c.in_ok-zeros.zeros.rows;
      zeros = c.in_ok-zeros.ensures.zeros;
      marks = c.in_ok-marks.marks.items;
      marked = c.in_ok-marks.ensures;
      kept = rw c.deref-3.ensures.value at c.in_ok-places.ensures.kept;
    }

pub returns-in_err-basis-clause-failed : goal.returns-in_err-basis-clause-failed
returns-in_err-basis-clause-failed c =
    let group = rw c.deref.ensures.value at c.in_ok-group.ensures in
    let p = err_from_is_err_and c.from_residual-in_err-basis.result c.from_residual-in_err-basis.ensures.1 in
    rw (p.1, p.2) (thin_of_elimination c.args.cols c.args.rows.now c.args.lines.now c.args.cuts.now c.in_err-basis.field-0.0 (λ e s. wide_group c.args.rows.now c.args.cuts.now c.in_ok-zeros.zeros.rows c.in_ok-marks.marks.items c.in_ok-zeros.ensures.zeros c.in_ok-marks.ensures c.args.cols c.args.lines.now c.in_ok-group.group.items e group s) (rw c.deref-2.ensures.value at c.in_err-basis.ensures.wide))

pub returns-clause-few : goal.returns-clause-few
returns-clause-few c = let f = c.in_ok-places.ensures.few in let e = c.in_ok-zeros.ensures.zeros.as_many in omega arith

pub returns-in_err-basis-clause-ranged : goal.returns-in_err-basis-clause-ranged
returns-in_err-basis-clause-ranged c =
    let p = err_from_is_err_and c.from_residual-in_err-basis.result c.from_residual-in_err-basis.ensures.1 in
    rw (p.1, p.2) (ranged_elimination c.in_err-basis.field-0.0)

pub returns-in_err-basis-clause-lost : goal.returns-in_err-basis-clause-lost
returns-in_err-basis-clause-lost c = λ wide.
    let group = rw c.deref.ensures.value at c.in_ok-group.ensures in
    let p = err_from_is_err_and c.from_residual-in_err-basis.result c.from_residual-in_err-basis.ensures.1 in
    let same = group_is c.args.rows.now c.args.cuts.now c.in_ok-zeros.zeros.rows c.in_ok-marks.marks.items c.in_ok-zeros.ensures.zeros c.in_ok-marks.ensures c.args.lines.now c.in_ok-group.group.items group in
    rw (p.1, p.2) (group_lost c.args.cols c.args.rows.now c.args.lines.now c.args.cuts.now c.in_ok-group.group.items same c.in_err-basis.field-0.0 (rw c.deref-2.ensures.value at (c.in_err-basis.ensures.lost wide)))
