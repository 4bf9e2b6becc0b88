use Rattle.pm_lift.proofs.WideRows.{last_combined}
use Rattle.pm_lift.proofs.wide_rows.wide_row.Goals as goal
use Rattle.pm_vector.specs.Divisors.{IsPrimitiveOf}
use Rattle.pm_vector.specs.WideInts.{value_of}
use Rattle.pm_elim.specs.Lost.{PrimitiveIsLost}
use Rattle.std.proofs.Common.{subst, ◌∙◌}
use Rattle.std.proofs.lemmas.Int.{to_z-of_z}
use Rattle.std.specs.Int.{w128}
use Rattle.std.specs.Prelude.{IfNone, IfOk, IfSome}

pub returns-clause-primitive : goal.returns-clause-primitive
returns-clause-primitive c =
    let d = last_combined c.args.row.now c.push.new.self c.in_ok-up.up c.args.p (value_of c.of.result) (value_of c.args.last) (value_of c.opposite.result)
    (c.of.ensures ∙ to_z-of_z w128 c.args.p c.ranges.p) (c.in_ok-push.ensures.ok ∙ (rw c.in_ok-longer.ensures)) c.opposite.ensures (c.in_ok-up.ensures ∙ (rw c.len.ensures)) in
    subst (λ x. IfOk c.primitive_combination.result (λ o. IfSome o (IsPrimitiveOf x))) d c.primitive_combination.ensures.primitive

pub returns-clause-lost : goal.returns-clause-lost
returns-clause-lost c =
    let d = last_combined c.args.row.now c.push.new.self c.in_ok-up.up c.args.p (value_of c.of.result) (value_of c.args.last) (value_of c.opposite.result)
    (c.of.ensures ∙ to_z-of_z w128 c.args.p c.ranges.p) (c.in_ok-push.ensures.ok ∙ (rw c.in_ok-longer.ensures)) c.opposite.ensures (c.in_ok-up.ensures ∙ (rw c.len.ensures)) in
    subst (λ x. IfOk c.primitive_combination.result (λ o. IfNone o (PrimitiveIsLost x))) d c.primitive_combination.ensures.wide
