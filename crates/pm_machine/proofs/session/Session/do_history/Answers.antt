-- The history of the object of the name is told.
use Rattle.std.proofs.Common.{ap, sym}
use Rattle.pm_machine.proofs.Names.{history_told}
use Rattle.pm_object.specs.State.{ObjectSeen}
use Rattle.pm_script.specs.Replies.{seen}
use Rattle.std.specs.Option.{option_map}
use Rattle.pm_machine.proofs.session.Session.do_history.Goals as goal

pub returns : goal.returns
returns g c = history_told seen c.tell_history.result _ _ _ c.in-Some.object.now.state (ap (option_map (λ (z : ObjectSeen). z.state)) (sym c.in-Some.ensures.value)) c.tell_history.ensures
