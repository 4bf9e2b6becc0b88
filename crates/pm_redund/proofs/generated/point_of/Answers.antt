use Rattle.pm_redund.proofs.Lifted.{equations_cols, equations_length, lifted_cols, lifted_length, objective_length}
use Rattle.pm_redund.proofs.Marked.{marked_cols, marked_few, place_cols}
use Rattle.pm_redund.proofs.Programs.{infeasible_generated, point_apart}
use Rattle.pm_redund.proofs.generated.point_of.Goals as goal
use Rattle.pm_geom.specs.StatedOrder.{rows_marked}
use Rattle.pm_vector.specs.Bases.{row_at}
use Rattle.pm_simplex.specs.Generated.{turned}
use Rattle.pm_vector.specs.Cones.{InCone}
use Rattle.pm_vector.specs.Rows.{Row}
use Rattle.std.proofs.Common.{[], arith, length, subst, sym, true, ◌+◌, ◌≡◌, ◌∙◌}
use Rattle.std.proofs.lemmas.List.{get_or_default}

pub maximise_rows_by-requires-clause-few : goal.maximise_rows_by-requires-clause-few
maximise_rows_by-requires-clause-few c =
    let M = c.args.chosen.now.marks.items in
    let K = rows_marked true M c.args.rows.now in
    let a = lifted_length K in
    let b = marked_few M c.args.rows.now in
    let d = equations_length c.args.lines.now c.args.opposed c.index-rows-i.result in
    let e = objective_length (c.args.cols + 1) in
    let f = c.requires.few_rows in
    let g = c.requires.few_lines in
    let h = c.requires.few_columns in
    rw (c.deref.ensures.value, c.deref-2.ensures.value, c.deref-3.ensures.value, c.requires.chosen.lifted, c.in_ok-ties.ensures, c.in_ok-objective.ensures) (omega arith)

pub maximise_rows_by-requires-clause-inequality_cols : goal.maximise_rows_by-requires-clause-inequality_cols
maximise_rows_by-requires-clause-inequality_cols c =
    let M = c.args.chosen.now.marks.items in
    rw (c.deref.ensures.value, c.deref-3.ensures.value, c.requires.chosen.lifted, c.in_ok-objective.ensures, objective_length (c.args.cols + 1)) (lifted_cols c.args.cols (rows_marked true M c.args.rows.now) (marked_cols c.args.cols M c.args.rows.now c.requires.row_cols))

pub maximise_rows_by-requires-clause-equation_cols : goal.maximise_rows_by-requires-clause-equation_cols
maximise_rows_by-requires-clause-equation_cols c =
    rw (c.deref-2.ensures.value, c.deref-3.ensures.value, c.in_ok-ties.ensures, c.in_ok-objective.ensures, objective_length (c.args.cols + 1), sym (get_or_default c.args.rows.now c.args.i [] _ c.requires.place ∙ sym c.index-rows-i.is)) (equations_cols c.args.cols c.args.lines.now c.args.opposed (row_at c.args.rows.now c.args.i) c.requires.line_cols (place_cols c.args.cols c.args.rows.now c.args.i c.requires.place c.requires.row_cols))

pub returns-in-Ok-Infeasible-clause-generated : goal.returns-in-Ok-Infeasible-clause-generated
returns-in-Ok-Infeasible-clause-generated c =
    let M = c.args.chosen.now.marks.items in
    let K = rows_marked true M c.args.rows.now in
    let item : row_at c.args.rows.now c.args.i ≡ c.index-rows-i.result = get_or_default c.args.rows.now c.args.i [] c.index-rows-i.result c.requires.place ∙ sym c.index-rows-i.is in
    let cols = subst (λ (x : Row). length x ≡ c.args.cols) item (place_cols c.args.cols c.args.rows.now c.args.i c.requires.place c.requires.row_cols) in
    let answer = rw (c.in-Ok-Infeasible.field-0-is, c.deref.ensures.value, c.deref-2.ensures.value, c.requires.chosen.lifted, c.in_ok-ties.ensures) at c.in-Ok-Infeasible.ensures.answer in
    subst (λ (x : Row). InCone K c.args.lines.now (turned c.args.opposed x)) (sym item) (infeasible_generated c.args.cols K c.args.lines.now (marked_cols c.args.cols M c.args.rows.now c.requires.row_cols) c.requires.line_cols c.args.opposed c.index-rows-i.result cols answer)

pub returns-in-Ok-Optimal-clause-apart : goal.returns-in-Ok-Optimal-clause-apart
returns-in-Ok-Optimal-clause-apart c =
    let M = c.args.chosen.now.marks.items in
    let K = rows_marked true M c.args.rows.now in
    let item : row_at c.args.rows.now c.args.i ≡ c.index-rows-i.result = get_or_default c.args.rows.now c.args.i [] c.index-rows-i.result c.requires.place ∙ sym c.index-rows-i.is in
    let cols = subst (λ (x : Row). length x ≡ c.args.cols) item (place_cols c.args.cols c.args.rows.now c.args.i c.requires.place c.requires.row_cols) in
    let answer = rw (c.in-Ok-Optimal.field-0-is, c.deref.ensures.value, c.deref-2.ensures.value, c.requires.chosen.lifted, c.in_ok-ties.ensures) at c.in-Ok-Optimal.ensures.answer in
    subst (λ (x : Row). ¬ (InCone K c.args.lines.now (turned c.args.opposed x))) (sym item) (point_apart c.args.cols K c.args.lines.now (marked_cols c.args.cols M c.args.rows.now c.requires.row_cols) c.requires.line_cols c.args.opposed c.index-rows-i.result cols answer.point)

pub returns-in-Ok-Unbounded-clause-apart : goal.returns-in-Ok-Unbounded-clause-apart
returns-in-Ok-Unbounded-clause-apart c =
    let M = c.args.chosen.now.marks.items in
    let K = rows_marked true M c.args.rows.now in
    let item : row_at c.args.rows.now c.args.i ≡ c.index-rows-i.result = get_or_default c.args.rows.now c.args.i [] c.index-rows-i.result c.requires.place ∙ sym c.index-rows-i.is in
    let cols = subst (λ (x : Row). length x ≡ c.args.cols) item (place_cols c.args.cols c.args.rows.now c.args.i c.requires.place c.requires.row_cols) in
    let answer = rw (c.in-Ok-Unbounded.field-0-is, c.deref.ensures.value, c.deref-2.ensures.value, c.requires.chosen.lifted, c.in_ok-ties.ensures) at c.in-Ok-Unbounded.ensures.answer in
    subst (λ (x : Row). ¬ (InCone K c.args.lines.now (turned c.args.opposed x))) (sym item) (point_apart c.args.cols K c.args.lines.now (marked_cols c.args.cols M c.args.rows.now c.requires.row_cols) c.requires.line_cols c.args.opposed c.index-rows-i.result cols answer.point)
