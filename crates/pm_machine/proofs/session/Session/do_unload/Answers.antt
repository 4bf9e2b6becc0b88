-- No client has the name, or the first that has it goes, and its meaning with it.
use Rattle.std.proofs.Common.{ap, refl, sym, ◌∙◌}
use Rattle.std.specs.Prelude.{map}
use Rattle.pm_client.proofs.Meant.{narrows_removed}
use Rattle.pm_machine.specs.Steps.{is_refused, is_unloaded, no_such_client}
use Rattle.pm_machine.proofs.session.Session.do_unload.Goals as goal

pub returns-in_default-clause-step : goal.returns-in_default-clause-step
returns-in_default-clause-step g c =
    rw c.refused.ensures
    (is_refused (no_such_client (rw c.deref.ensures.value at c.in_default.ensures.none)) (record { names = refl; objects = λ q. refl; clients = refl; store = refl }))

pub returns-clause-step : goal.returns-clause-step
returns-clause-step g c =
    rw c.done.ensures
    (is_unloaded refl (rw c.deref.ensures.value at c.in-Some.ensures.some)
    (record {
      names = refl;
      objects = λ q. refl;
      clients = ap (map (λ b. (goal.Client-dyn g (b.vtable, b.value)).tally b.value)) c.remove.ensures.items ∙ sym (rw c.deref.ensures.value at c.in-Some.ensures.without);
      store = refl;
    }))

pub returns-clause-narrows : goal.returns-clause-narrows
returns-clause-narrows g c = rw c.remove.ensures.items (narrows_removed (λ b. (goal.Client-dyn g (b.vtable, b.value)).tally b.value) _ _ c.args.clients.now.items c.in-Some.place)
