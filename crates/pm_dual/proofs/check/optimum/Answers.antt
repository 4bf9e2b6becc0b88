use Rattle.pm_vector.specs.Cones.{combination}
use Rattle.pm_vector.specs.Rows.{Same, dot, entry, plus, times}
use Rattle.pm_dual.proofs.Optimum.{optimum_is}
use Rattle.pm_dual.proofs.check.optimum.Goals as goal
use Rattle.pm_dual.specs.Quotients.{AreQuotients}
use Rattle.pm_fraction.specs.Fractions.{IsLowestTermsOf, ratio_of}
use Rattle.std.proofs.Common.{[], ap, ap₂, arith, length, of_z, refl, rules, subst, to_z, ℤ, ◌++◌, ◌<◌, ◌∷◌, ◌≡◌, ◌∙◌}
use Rattle.std.proofs.lemmas.Int.{ints, to_z-of_z}
use lib.IntN.{◌*ℤ◌}
use mir.Syntax.{w128}

pub returns : goal.returns
returns c =
    let d = entry c.args.point.now 0 in
    let value : c.in-Ok.value ≡ dot c.args.objective.now.row c.args.point.now = c.in-Ok.ensures.value ∙ ap (λ r. dot r c.args.point.now) c.as_slice.ensures.value in
    let value_read : to_z w128 (of_z w128 c.in-Ok.value) ≡ dot c.args.objective.now.row c.args.point.now = to_z-of_z w128 c.in-Ok.value (search rules) ∙ value in
    let d_read : to_z w128 (of_z w128 d) ≡ d = to_z-of_z w128 d (search rules) in
    let k_read : to_z w128 (of_z w128 c.args.objective.now.times) ≡ c.args.objective.now.times = to_z-of_z w128 c.args.objective.now.times (search rules) in
    let denominator_read : to_z w128 (of_z w128 c.in-Ok-times.denominator) ≡ d *ℤ c.args.objective.now.times = to_z-of_z w128 c.in-Ok-times.denominator (search rules) ∙ (c.in-Ok-times.ensures.value ∙ ap₂ times_z d_read k_read) in
    record {
      right = λ k tc.
          let some : 0 < length c.args.point.now = c.requires.some in
          let cols : length c.args.point.now ≡ length c.args.objective.now.row = c.requires.cols in
          let t = tc.cols in
          optimum_is c.args.inequalities.now c.args.equations.now k c.args.objective.now.times c.args.objective.now.row c.args.point.now c.args.multipliers.now c.in-Some.start d c.in-Ok-new.value c.in-Some-2.point.items c.in-Some-3.dual.items
          tc (c.requires.cols ∙ tc.cols) (omega arith) refl (let n = c.if-scale-le0.false in omega (arith, ints)) (c.if-not-solves.ensures refl) c.requires.as_many (c.if-not-sums_to.ensures.up refl)
          (subst (λ (z : ℤ). Same c.in-Some.start (times z c.args.objective.now.row)) d_read (rw c.in-Some.is at c.in_ok-start.ensures.times))
          (subst (λ (z : ℤ). Same (z ∷ []) (plus c.in-Some.start (combination c.args.multipliers.now (c.args.inequalities.now ++ c.args.equations.now)))) value_read (c.if-not-sums_to.ensures.sum refl))
          (subst (λ (z : ℤ). IsLowestTermsOf (ratio_of (dot c.args.objective.now.row c.args.point.now) z) c.in-Ok-new.value) denominator_read (subst (λ (z : ℤ). IsLowestTermsOf (ratio_of z (to_z w128 (of_z w128 c.in-Ok-times.denominator))) c.in-Ok-new.value) value_read c.in-Ok-new.ensures.ok))
          (subst (λ (z : ℤ). AreQuotients c.args.point.now z c.in-Some-2.point.items) d_read (rw c.in-Some-2.is at c.in_ok-point.ensures))
          (subst (λ (z : ℤ). AreQuotients c.args.multipliers.now z c.in-Some-3.dual.items) denominator_read (rw c.in-Some-3.is at c.in_ok-dual.ensures));
    }
  where
    times_z : ℤ → ℤ → ℤ
    times_z a b = a *ℤ b
