use Rattle.pm_vector.specs.Cones.{combination}
use Rattle.pm_vector.specs.Rows.{entry, plus, times}
use Rattle.pm_vector.specs.WideInts.{value_of}
use Rattle.pm_wide_programs.proofs.ColumnSums.{with_row}
use Rattle.pm_wide_programs.proofs.sums.column_sum.Goals as goal
use Rattle.pm_wide_programs.specs.Values.{values}
use Rattle.std.proofs.Common.{rules, ◌++◌, ◌≡◌, ◌∙◌}
use Rattle.std.proofs.lemmas.Int.{to_z-of_z}
use Rattle.std.proofs.lemmas.Option.{IfSome_then}
use lib.IntN.{◌+ℤ◌}
use mir.Syntax.{w128}

pub returns : goal.returns
returns c =
    IfSome_then c.add_column.result {P = (λ r. value_of r ≡ value_of c.in_ok-start.start +ℤ entry (combination (values c.args.multipliers.now) (c.args.inequalities.now ++ c.args.equations.now)) c.args.j)}
    {Q = (λ r. value_of r ≡ entry (plus (times (value_of c.args.scale) c.args.row.now) (combination (values c.args.multipliers.now) (c.args.inequalities.now ++ c.args.equations.now))) c.args.j)}
    c.add_column.ensures
    (λ r e. with_row (value_of c.args.scale) (value_of r) (value_of c.in_ok-start.start) (value_of c.of.result) c.args.row.now (combination (values c.args.multipliers.now) (c.args.inequalities.now ++ c.args.equations.now)) c.args.j c.in_ok-start.ensures.some (c.of.ensures ∙ (to_z-of_z w128 c.get.result (search rules) ∙ c.get.ensures.value)) e)
