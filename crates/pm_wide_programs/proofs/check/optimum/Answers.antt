use Rattle.pm_dual.specs.Quotients.{AreQuotients}
use Rattle.pm_vector.specs.WideInts.{value_of}
use Rattle.pm_wide_programs.proofs.CommonDuals.{common_optimum}
use Rattle.pm_wide_programs.proofs.ValueRows.{at_value, length_values}
use Rattle.pm_wide_programs.proofs.check.optimum.Goals as goal
use Rattle.pm_wide_programs.specs.Values.{values}
use Rattle.std.proofs.Common.{ap, arith, length, rules, subst, ℤ, ◌<◌, ◌≡◌, ◌∙◌}
use Rattle.std.proofs.lemmas.Int.{to_z-of_z}
use lib.IntN.{◌*ℤ◌}
use mir.Syntax.{w128}

pub returns : goal.returns
returns c = record {
  right = λ k tc.
      let some : 0 < length c.args.point.now = c.requires.some in
      let cols : length c.args.point.now ≡ length c.args.objective.now.row = c.requires.cols in
      let t = tc.cols in
      let times : value_of c.of.result ≡ c.args.objective.now.times = c.of.ensures ∙ to_z-of_z w128 c.args.objective.now.times (search rules) in
      let shown = c.in-Some.ensures in
      common_optimum c.args.inequalities.now c.args.equations.now k c.args.objective.now.times c.args.objective.now.row (values c.args.point.now) (value_of c.args.scale) (values c.args.multipliers.now) c.in-Some.value c.in-Some-2.point.items c.in-Some-3.dual.items
      tc (length_values c.args.point.now ∙ c.requires.cols ∙ tc.cols) (omega arith) shown.solves (length_values c.args.multipliers.now ∙ c.requires.as_many)
      shown.up
      shown.common
      (at_value (λ z. AreQuotients (values c.args.point.now) z c.in-Some-2.point.items) c.args.point.now 0 _ some (rw c.in-Some-2.is at c.in_ok-point.ensures))
      (subst (λ (z : ℤ). AreQuotients (values c.args.multipliers.now) z c.in-Some-3.dual.items) (c.in-Some-times.ensures.some ∙ ap (λ z. value_of c.args.scale *ℤ z) times) (rw c.in-Some-3.is at c.in_ok-dual.ensures));
}
