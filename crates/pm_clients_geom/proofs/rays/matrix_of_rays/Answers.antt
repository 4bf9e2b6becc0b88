use Rattle.pm_clients_geom.proofs.PutRays.{rays_more, rays_stated, row_before, row_some}
use Rattle.pm_clients_geom.proofs.rays.matrix_of_rays.Goals as goal
use Rattle.pm_clients_geom.specs.Rays.{ArePutRays}
use Rattle.std.proofs.Common.{ap, subst, ◌∙◌}
use Rattle.std.proofs.lemmas.List.{take_all}
use Rattle.std.proofs.lemmas.Result.{IfOk-from_err}

pub ray_row-requires-clause-some : goal.ray_row-requires-clause-some
ray_row-requires-clause-some c = row_some c.args.cols c.args.rows.now c.loop-row.row-index c.row-item.result c.requires.some c.requires.cols c.loop-row-test.true c.row-item.is

pub ray_row-requires-clause-first : goal.ray_row-requires-clause-first
ray_row-requires-clause-first c = row_before c.args.of c.args.rows.now c.loop-row.row-index c.row-item.result c.requires.rays c.loop-row-test.true c.row-item.is

pub loop-row-preserved : goal.loop-row-preserved
loop-row-preserved c = record {
  each = rays_more c.args.of c.args.rows.now c.loop-row.row-index c.row-item.result c.loop-row.matrix c.push_row.new.self c.in_ok-fractions.fractions.items c.loop-row-test.true c.row-item.is c.loop-row.invariant.each (rw c.deref.ensures.value at c.in-Ok.ensures.ok) c.in_ok-fractions.ensures.value;
  cols = ap (λ m. m.cols) c.in-Ok.ensures.ok ∙ c.loop-row.invariant.cols;
}

pub returns-in_err-fractions-clause-stated : goal.returns-in_err-fractions-clause-stated
returns-in_err-fractions-clause-stated c = IfOk-from_err c.from_residual.result _ c.from_residual.ensures.0

pub returns-in_err-fractions-clause-rows : goal.returns-in_err-fractions-clause-rows
returns-in_err-fractions-clause-rows c = IfOk-from_err c.from_residual.result _ c.from_residual.ensures.0

pub returns-clause-rows : goal.returns-clause-rows
returns-clause-rows c = subst (ArePutRays c.args.of c.loop-row.matrix.rows) (take_all c.loop-row.row-index c.args.rows.now c.loop-row-test.false) c.loop-row.invariant.each

pub returns-clause-stated : goal.returns-clause-stated
returns-clause-stated c =
    rays_stated c.args.of c.args.cols c.loop-row.matrix c.args.rows.now c.loop-row.invariant.cols
    (subst (ArePutRays c.args.of c.loop-row.matrix.rows) (take_all c.loop-row.row-index c.args.rows.now c.loop-row-test.false) c.loop-row.invariant.each)
