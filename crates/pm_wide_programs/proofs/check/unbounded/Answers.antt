use Rattle.pm_dual.proofs.Optimum.{unbounded_is}
use Rattle.pm_dual.specs.Quotients.{AreQuotients}
use Rattle.pm_vector.specs.Rows.{entry}
use Rattle.pm_wide_programs.proofs.ValueRows.{at_value, length_values}
use Rattle.pm_wide_programs.proofs.check.unbounded.Goals as goal
use Rattle.pm_wide_programs.specs.Values.{values}
use Rattle.std.proofs.Common.{arith, length, refl, subst, ℤ, ◌<◌, ◌≡◌, ◌∙◌}

pub returns : goal.returns
returns c = record {
  right = λ k tc.
      let some : 0 < length c.args.point.now = c.requires.some in
      let cols : length c.args.point.now ≡ length c.args.objective.now.row = c.requires.cols in
      let t = tc.cols in
      let shown = c.if-not-grows.ensures refl in
      unbounded_is c.args.inequalities.now c.args.equations.now k c.args.objective.now.times c.args.objective.now.row (values c.args.point.now) (values c.args.direction.now) (entry (values c.args.point.now) 0) c.in-Some.point.items c.in-Some-2.direction.items
      tc (length_values c.args.point.now ∙ c.requires.cols ∙ tc.cols) (length_values c.args.direction.now ∙ c.requires.direction_cols ∙ tc.cols) (omega arith) refl
      shown.first shown.point shown.level shown.direction shown.improves
      (at_value (λ z. AreQuotients (values c.args.point.now) z c.in-Some.point.items) c.args.point.now 0 _ some (rw c.in-Some.is at c.in_ok-point.ensures))
      (subst (λ (z : ℤ). AreQuotients (values c.args.direction.now) z c.in-Some-2.direction.items) c.of.ensures (rw c.in-Some-2.is at c.in_ok-direction.ensures));
}
