use Rattle.pm_vector.specs.WideInts.{value_of}
use Rattle.pm_wide_programs.proofs.ColumnSums.{last_column, next_column}
use Rattle.pm_wide_programs.proofs.ValueRows.{length_values, read_more}
use Rattle.pm_wide_programs.proofs.sums.add_column.Goals as goal
use Rattle.pm_wide_programs.specs.Values.{values}
use Rattle.std.proofs.Common.{arith, length, rules, ◌+◌, ◌++◌, ◌≡◌}
use Rattle.std.proofs.lemmas.Int.{to_z-of_z}
use Rattle.std.proofs.lemmas.List.{length-append}
use mir.Syntax.{w128}

pub loop-i-preserved : goal.loop-i-preserved
loop-i-preserved c =
    let n : length c.args.multipliers.now ≡ length c.args.inequalities.now + length c.args.equations.now = c.requires.as_many in
    let long = length_values c.args.multipliers.now in
    let all = length-append c.args.inequalities.now c.args.equations.now in
    next_column (values c.args.multipliers.now) (c.args.inequalities.now ++ c.args.equations.now) c.loop-i.i c.args.j (value_of c.loop-i.sum) (value_of c.in_ok-sum.sum) c.coefficient-a.result _ (omega arith) (omega arith) c.coefficient-a.ensures
    (read_more c.args.multipliers.now c.loop-i.i _ (value_of c.loop-i.sum) (value_of c.in_ok-sum.sum) c.coefficient-a.result _ c.loop-i-test.true (to_z-of_z w128 c.coefficient-a.result (search rules)) c.in_ok-sum.ensures)
    c.loop-i.invariant

pub returns : goal.returns
returns c = last_column (values c.args.multipliers.now) (c.args.inequalities.now ++ c.args.equations.now) c.loop-i.i c.args.j (value_of c.loop-i.sum) _ (omega (arith, length_values c.args.multipliers.now)) c.loop-i.invariant
