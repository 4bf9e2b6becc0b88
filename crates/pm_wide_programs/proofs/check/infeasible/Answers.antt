use Rattle.pm_dual.proofs.Optimum.{infeasible_is}
use Rattle.pm_dual.specs.Quotients.{AreQuotients}
use Rattle.pm_wide_programs.proofs.ValueRows.{length_values}
use Rattle.pm_wide_programs.proofs.check.infeasible.Goals as goal
use Rattle.pm_wide_programs.specs.Values.{values}
use Rattle.std.proofs.Common.{refl, subst, ℤ, ◌∙◌}
use Rattle.std.specs.Prelude.{[]}

pub returns : goal.returns
returns c k =
    let shown = c.if-not-excludes_points.ensures refl in
    infeasible_is c.args.inequalities.now c.args.equations.now (values c.args.multipliers.now) [] shown.constant c.in-Some.multipliers.items (length_values c.args.multipliers.now ∙ c.requires.as_many)
    shown.up
    (λ i. refl) shown.sum shown.negative
    (subst (λ (z : ℤ). AreQuotients (values c.args.multipliers.now) z c.in-Some.multipliers.items) c.of.ensures (rw c.in-Some.is at c.in_ok-multipliers.ensures))
