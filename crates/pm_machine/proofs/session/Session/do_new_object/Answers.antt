-- The object of a new name is added.
use Rattle.std.proofs.Common.{Some, ap, refl, sym, ◌∙◌}
use Rattle.pm_machine.specs.Steps.{is_made}
use Rattle.pm_machine.proofs.session.Session.do_new_object.Goals as goal

pub returns-clause-step : goal.returns-clause-step
returns-clause-step g c =
    let free = rw c.as_str.ensures.value at c.in_default-bars.ensures.none in
    rw c.done.ensures
    (is_made c.in-Some.of (sym c.type_named.ensures ∙ c.in-Some.is) free.0 free.1 refl
    (record { names = c.in_ok-add.ensures.gains.names; object = c.in_ok-add.ensures.gains.object ∙ ap Some c.new.ensures.state; others = c.in_ok-add.ensures.gains.others; clients = refl; store = refl }))
