use Rattle.pm_vector.specs.Cones.{combination}
use Rattle.pm_vector.specs.Rows.{Same, entry, plus, times}
use Rattle.pm_vector.specs.WideInts.{value_of}
use Rattle.pm_wide_programs.proofs.ColumnSums.{constant_sum}
use Rattle.pm_wide_programs.proofs.sums.constant_of.Goals as goal
use Rattle.pm_wide_programs.specs.Values.{values}
use Rattle.std.proofs.Common.{[], arith, length, refl, ◌++◌, ◌∷◌, ◌≡◌}
use Rattle.std.proofs.lemmas.Option.{IfSome_then}

pub returns : goal.returns
returns c =
    IfSome_then c.column_sum-2.result {P = (λ r. value_of r ≡ entry (plus (times (value_of c.args.scale) c.args.row.now) (combination (values c.args.multipliers.now) (c.args.inequalities.now ++ c.args.equations.now))) 0)}
    {Q = (λ r. Same (value_of r ∷ []) (plus (times (value_of c.args.scale) c.args.row.now) (combination (values c.args.multipliers.now) (c.args.inequalities.now ++ c.args.equations.now))))}
    c.column_sum-2.ensures
    (λ r e. constant_sum (value_of c.args.scale) (value_of r) c.args.row.now (values c.args.multipliers.now) c.args.inequalities.now c.args.equations.now (length c.args.row.now) refl c.requires.some c.requires.inequality_cols c.requires.equation_cols e
    (λ j from below. c.loop-j.invariant j from (let n = c.len-j-end.ensures in let f = c.loop-j-test.false in omega arith)))
