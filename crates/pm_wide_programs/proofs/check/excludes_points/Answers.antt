use Rattle.pm_vector.specs.Cones.{combination}
use Rattle.pm_vector.specs.Rows.{times}
use Rattle.pm_vector.specs.WideInts.{value_of}
use Rattle.pm_wide_programs.proofs.CommonDuals.{none_times}
use Rattle.pm_wide_programs.proofs.Shown.{without_none}
use Rattle.pm_wide_programs.proofs.check.excludes_points.Goals as goal
use Rattle.pm_wide_programs.specs.Values.{values}
use Rattle.std.proofs.Common.{refl}
use Rattle.std.specs.Prelude.{◌++◌}

pub returns-in-Some : goal.returns-in-Some
returns-in-Some c = λ t. record {
  up = c.if-not-first_not_negative.ensures refl;
  constant = value_of c.in-Some.constant;
  negative = c.is_negative.ensures.0 t;
  sum = without_none (times (value_of c.of-none.result) c.args.objective.now.row) (combination (values c.args.multipliers.now) (c.args.inequalities.now ++ c.args.equations.now)) (value_of c.in-Some.constant)
      (none_times (value_of c.of-none.result) c.args.objective.now.row c.of-none.ensures) c.in-Some.ensures;
}
