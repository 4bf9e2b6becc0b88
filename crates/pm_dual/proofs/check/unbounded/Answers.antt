use Rattle.pm_vector.specs.Rows.{dot, entry}
use Rattle.pm_dual.proofs.Optimum.{unbounded_is}
use Rattle.pm_dual.proofs.check.unbounded.Goals as goal
use Rattle.pm_dual.specs.Quotients.{AreQuotients}
use Rattle.std.proofs.Common.{ap, arith, length, pos, refl, rules, subst, sym, to_z, ℤ, ◌<◌, ◌≡◌, ◌∙◌}
use Rattle.std.proofs.lemmas.Int.{ints, to_z-of_z}
use lib.Signed.{◌<ℤ◌}
use mir.Syntax.{w128}

pub returns : goal.returns
returns c = record {
  right = λ k tc.
      let some : 0 < length c.args.point.now = c.requires.some in
      let cols : length c.args.point.now ≡ length c.args.objective.now.row = c.requires.cols in
      let t = tc.cols in
      let up : pos 0 <ℤ c.in-Ok.rate = (let n = c.if-rate-le0.false in omega (arith, ints)) in
      unbounded_is c.args.inequalities.now c.args.equations.now k c.args.objective.now.times c.args.objective.now.row c.args.point.now c.args.direction.now (entry c.args.point.now 0) c.in-Some.point.items c.in-Some-2.direction.items
      tc (c.requires.cols ∙ tc.cols) (c.requires.direction_cols ∙ tc.cols) (omega arith) refl (let n = c.if-scale-le0.false in omega (arith, ints)) (c.if-not-solves.ensures refl) (sym (to_z-of_z w128 (entry c.args.direction.now 0) (search rules)) ∙ ap (to_z w128) c.if-direction-ne0.false) (c.if-not-solves-2.ensures refl)
      (subst (λ (z : ℤ). pos 0 <ℤ z) (c.in-Ok.ensures.value ∙ ap (λ r. dot r c.args.direction.now) c.as_slice.ensures.value) up)
      (subst (λ (z : ℤ). AreQuotients c.args.point.now z c.in-Some.point.items) (to_z-of_z w128 (entry c.args.point.now 0) (search rules)) (rw c.in-Some.is at c.in_ok-point.ensures))
      (rw c.in-Some-2.is at c.in_ok-direction.ensures);
}
