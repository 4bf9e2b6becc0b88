-- The copy of the object of the name is added.
use Rattle.std.proofs.Common.{Some, ap, refl, sym, ◌∙◌}
use Rattle.pm_machine.specs.Steps.{CopyStep}
use Rattle.pm_object.specs.State.{ObjectSeen}
use Rattle.std.specs.Option.{option_map}
use Rattle.pm_machine.proofs.session.Session.do_copy.Goals as goal

pub returns-clause-step : goal.returns-clause-step
returns-clause-step g c =
    let free = rw c.as_str.ensures.value at c.in_default-bars.ensures.none in
    rw c.done.ensures
    (CopyStep.is_copied c.in-Some.object.now.state refl (ap (option_map (λ (z : ObjectSeen). z.state)) (sym c.in-Some.ensures.value)) free.0 free.1
    (record { names = c.in_ok-add.ensures.gains.names; object = c.in_ok-add.ensures.gains.object ∙ ap Some c.in_ok-copy.ensures; others = c.in_ok-add.ensures.gains.others; clients = refl; store = refl }))
