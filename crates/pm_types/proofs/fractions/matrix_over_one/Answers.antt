use Rattle.pm_types.proofs.OverOne.{in_range_more, ratios_more}
use Rattle.pm_types.proofs.fractions.matrix_over_one.Goals as goal
use Rattle.pm_types.specs.Views.{ratios}
use Rattle.std.proofs.Common.{ap, map, refl, ◌∙◌}
use Rattle.std.proofs.lemmas.List.{take_all}
use Rattle.std.proofs.lemmas.Result.{IfOk-from_err}

pub loop-row-preserved : goal.loop-row-preserved
loop-row-preserved c = record {
  rows = ratios_more c.args.rows.now c.loop-row.row-index c.row-item.result c.loop-row.matrix c.push_row.new.self c.in_ok-fractions.fractions.items c.loop-row-test.true c.row-item.is c.loop-row.invariant.rows (rw c.deref.ensures.value at c.in-Ok.ensures.ok) c.in_ok-fractions.ensures.value;
  cols = ap (λ m. m.cols) c.in-Ok.ensures.ok ∙ c.loop-row.invariant.cols;
  in_range = in_range_more c.args.rows.now c.loop-row.row-index c.row-item.result c.loop-row-test.true c.row-item.is c.loop-row.invariant.in_range c.in_ok-fractions.ensures.in_range;
}

pub returns-in_err-fractions-clause-rows : goal.returns-in_err-fractions-clause-rows
returns-in_err-fractions-clause-rows c = IfOk-from_err c.from_residual.result _ c.from_residual.ensures.0

pub returns-in_err-fractions-clause-in_range : goal.returns-in_err-fractions-clause-in_range
returns-in_err-fractions-clause-in_range c = IfOk-from_err c.from_residual.result _ c.from_residual.ensures.0

pub returns-clause-rows : goal.returns-clause-rows
returns-clause-rows c =
    let rows = c.loop-row.invariant.rows ∙ ap (map ratios) (take_all c.loop-row.row-index c.args.rows.now c.loop-row-test.false) in
    rw (← c.loop-row.invariant.cols, ← rows) refl

pub returns-clause-in_range : goal.returns-clause-in_range
returns-clause-in_range c = rw (take_all c.loop-row.row-index c.args.rows.now c.loop-row-test.false) at c.loop-row.invariant.in_range
