use Rattle.pm_incidence.proofs.Described.{halves_of, halves_to, if_ok}
use Rattle.pm_geom.proofs.Taken.{no_from}
use Rattle.pm_incidence.proofs.ThinFails.{wide_more, first_part, second_part, if_err}
use Rattle.pm_incidence.proofs.facets.is_inside.Goals as goal
use Rattle.std.proofs.Common.{false, length, true, ◌≡◌}
use Rattle.std.proofs.lemmas.Result.{err_from_is_err_and}

pub returns-then-is_behind-clause-inside : goal.returns-then-is_behind-clause-inside
returns-then-is_behind-clause-inside c = no_from (λ h. (halves_to c.args.of (length c.args.ray.now) c.requires.some c.args.rows.now c.args.equations.now c.args.ray.now h).1 (c.is_behind.ensures.0 c.if-is_behind.true))

pub returns-then-not-cut_out-clause-inside : goal.returns-then-not-cut_out-clause-inside
returns-then-not-cut_out-clause-inside c = no_from (λ h. let e : false ≡ true = rw c.if-not-cut_out.true at (c.in_ok-cut_out.ensures.inside.1 (halves_to c.args.of (length c.args.ray.now) c.requires.some c.args.rows.now c.args.equations.now c.args.ray.now h).0.1) in cc)

pub returns-in_err-cut_out-clause-failed : goal.returns-in_err-cut_out-clause-failed
returns-in_err-cut_out-clause-failed c =
    let p = err_from_is_err_and c.from_residual.result c.from_residual.ensures.1 in
    rw (p.1, p.2) (wide_more c.args.ray.now c.args.rows.now _ c.in_err-cut_out.field-0.0 (first_part c.args.rows.now c.args.equations.now) c.in_err-cut_out.ensures.failed)

pub returns-clause-inside : goal.returns-clause-inside
returns-clause-inside c = if_ok c.is_null.result (λ b w. (
  λ t. halves_of c.args.of (length c.args.ray.now) c.requires.some c.args.rows.now c.args.equations.now c.args.ray.now (w.0 t, c.in_ok-cut_out.ensures.inside.0 c.if-not-cut_out.false) (λ x. let e : false ≡ true = rw c.if-is_behind.false at (c.is_behind.ensures.1 x) in cc),
  λ h. w.1 (halves_to c.args.of (length c.args.ray.now) c.requires.some c.args.rows.now c.args.equations.now c.args.ray.now h).0.0,
)) c.is_null.ensures.inside

pub returns-clause-failed : goal.returns-clause-failed
returns-clause-failed c = if_err c.is_null.result (λ f w. wide_more c.args.ray.now c.args.equations.now _ f (second_part c.args.rows.now c.args.equations.now) w) c.is_null.ensures.failed
