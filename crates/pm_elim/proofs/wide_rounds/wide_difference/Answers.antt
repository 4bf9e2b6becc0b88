use Rattle.pm_vector.proofs.Held.{narrow_factor}
use Rattle.pm_vector.specs.Divisors.{IsPrimitiveOf}
use Rattle.pm_vector.specs.Rows.{difference}
use Rattle.pm_vector.specs.WideInts.{value_of}
use Rattle.pm_elim.proofs.wide_rounds.wide_difference.Goals as goal
use Rattle.pm_elim.specs.Lost.{PrimitiveIsLost}
use Rattle.std.proofs.Common.{subst}
use Rattle.std.proofs.lemmas.Int.{to_z-of_z}
use Rattle.std.specs.Int.{w128}
use Rattle.std.specs.Prelude.{IfNone, IfSome}

pub primitive_combination-requires-clause-p_factor : goal.primitive_combination-requires-clause-p_factor
primitive_combination-requires-clause-p_factor c = rw (c.of.ensures, to_z-of_z w128 c.args.p c.ranges.p) (narrow_factor c.args.p c.ranges.p)

pub primitive_combination-requires-clause-q_factor : goal.primitive_combination-requires-clause-q_factor
primitive_combination-requires-clause-q_factor c = rw (c.of-2.ensures, to_z-of_z w128 c.args.q c.ranges.q) (narrow_factor c.args.q c.ranges.q)

pub returns-in-Some-clause-primitive : goal.returns-in-Some-clause-primitive
returns-in-Some-clause-primitive c =
    let x = difference (value_of c.of.result) c.args.row.now (value_of c.of-2.result) c.args.by.now in
    rw (c.of.ensures, c.of-2.ensures, to_z-of_z w128 c.args.p c.ranges.p, to_z-of_z w128 c.args.q c.ranges.q) at (subst (λ o. IfSome o (IsPrimitiveOf x)) c.in-Some.is c.in_ok-made.ensures.primitive)

pub returns-in-None-clause-lost : goal.returns-in-None-clause-lost
returns-in-None-clause-lost c =
    let x = difference (value_of c.of.result) c.args.row.now (value_of c.of-2.result) c.args.by.now in
    rw (c.of.ensures, c.of-2.ensures, to_z-of_z w128 c.args.p c.ranges.p, to_z-of_z w128 c.args.q c.ranges.q) at (subst (λ o. IfNone o (PrimitiveIsLost x)) c.in-None.is c.in_ok-made.ensures.wide)
