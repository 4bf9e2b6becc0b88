use Rattle.pm_vector.proofs.Lists.{all_append}
use Rattle.pm_vector.specs.Rows.{Row}
use Rattle.pm_geom.specs.StatedOrder.{rows_marked}
use Rattle.pm_redund.proofs.Marked.{marked_cols, marked_few}
use Rattle.pm_redund.proofs.thinned.kept_of.Goals as goal
use Rattle.std.proofs.Common.{arith, length, true, ◌≡◌}
use Rattle.std.proofs.lemmas.List.{length-append}

pub echelon_by-requires-clause-columns : goal.echelon_by-requires-clause-columns
echelon_by-requires-clause-columns c =
    rw (c.deref.ensures.value, c.in_ok-group.ensures) (all_append (λ (x : Row). length x ≡ c.args.cols) c.args.lines.now (rows_marked true c.args.line_marks.now c.args.rows.now) c.requires.line_cols (marked_cols c.args.cols c.args.line_marks.now c.args.rows.now c.requires.row_cols))

pub echelon_by-requires-clause-few_rows : goal.echelon_by-requires-clause-few_rows
echelon_by-requires-clause-few_rows c =
    let a = length-append c.args.lines.now (rows_marked true c.args.line_marks.now c.args.rows.now) in
    let b = marked_few c.args.line_marks.now c.args.rows.now in
    let d = c.requires.few_rows in
    let e = c.requires.few_lines in
    rw (c.deref.ensures.value, c.in_ok-group.ensures) (omega arith)
