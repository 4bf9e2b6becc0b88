-- The object of the name goes, where there is one; the others stay.
use Rattle.pm_machine.proofs.KeepingSteps.{some_not_none}
use Rattle.pm_machine.proofs.Names.{loses_one, stays_unchanged}
use Rattle.pm_machine.specs.Machines.{no_such_name}
use Rattle.pm_machine.specs.Steps.{is_dropped, is_refused}
use Rattle.pm_object.specs.State.{ObjectSeen}
use Rattle.std.proofs.Common.{ap, refl, sym, ◌∙◌}
use Rattle.std.specs.Option.{option_map}
use Rattle.pm_machine.proofs.session.Session.do_drop.Goals as goal
use Rattle.pm_machine.proofs.session.Session.do_drop.Goals.{in-None, in-Some}

pub returns-clause-step : goal.returns-clause-step
returns-clause-step g c = elim c.match-shift_remove.branch [
  | in-Some w ↦ rw (w.result-is, w.done.ensures) (is_dropped refl
      (λ none. some_not_none (sym (ap (option_map (λ (z : ObjectSeen). z.state)) (sym c.shift_remove.ensures.value ∙ w.in-Some.is)) ∙ none))
      (loses_one c.args.self.now.objects c.shift_remove.new.self c.args.name.now _ c.shift_remove.ensures.entries c.shift_remove.ensures.updates))
  | in-None w ↦ rw (w.result-is, w.refused.ensures) (is_refused
      (no_such_name (ap (option_map (λ (z : ObjectSeen). z.state)) (sym c.shift_remove.ensures.value ∙ w.in-None.is)))
      (stays_unchanged c.args.self.now.objects c.shift_remove.new.self _ (rw w.in-None.is at c.shift_remove.ensures.unchanged)))
]
