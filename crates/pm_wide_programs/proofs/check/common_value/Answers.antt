use Rattle.pm_vector.specs.Rows.{dot}
use Rattle.pm_vector.specs.WideInts.{value_of}
use Rattle.pm_wide_programs.proofs.CommonDuals.{common_is, first_times, ratio_same}
use Rattle.pm_wide_programs.proofs.check.common_value.Goals as goal
use Rattle.pm_wide_programs.specs.Values.{values}
use Rattle.std.proofs.Common.{ap, rules, ◌≡◌, ◌∙◌}
use Rattle.std.proofs.lemmas.Int.{to_z-of_z}
use lib.IntN.{◌*ℤ◌}
use mir.Syntax.{w128}

pub returns-then-eq : goal.returns-then-eq
returns-then-eq c =
    let times : value_of c.of-times.result ≡ c.args.objective.now.times = c.of-times.ensures ∙ to_z-of_z w128 c.args.objective.now.times (search rules) in
    common_is c.args.inequalities.now c.args.equations.now c.args.objective.now.times c.args.objective.now.row (values c.args.point.now) (value_of c.args.scale) (values c.args.multipliers.now) c.in_ok-value.value c.in_ok-bound.bound
    (value_of c.in_ok-constant.constant) (value_of c.in_ok-top.top) (value_of c.in_ok-first.first) (value_of c.in_ok-denominator.denominator)
    (c.in_ok-denominator.ensures.some ∙ ap (λ z. value_of c.args.scale *ℤ z) times)
    (first_times c.args.point.now _ (value_of c.in_ok-first.first) _ c.args.objective.now.times c.requires.some c.in_ok-first.ensures.some times)
    (c.in_ok-top.ensures ∙ ap (λ r. dot r (values c.args.point.now)) c.as_slice.ensures.value)
    (ratio_same c.in_ok-value.value c.in_ok-bound.bound c.if-eq.ensures)
    c.in_ok-value.ensures.positive c.in_ok-value.ensures.lowest c.in_ok-bound.ensures.positive c.in_ok-bound.ensures.lowest c.in_ok-constant.ensures
