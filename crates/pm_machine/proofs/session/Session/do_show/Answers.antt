-- What the object of the name holds is told.
use Rattle.std.proofs.Common.{ap, sym}
use Rattle.pm_machine.proofs.Names.{object_told}
use Rattle.pm_object.specs.State.{ObjectSeen}
use Rattle.pm_script.specs.Replies.{seen}
use Rattle.std.specs.Option.{option_map}
use Rattle.pm_machine.proofs.session.Session.do_show.Goals as goal

pub returns : goal.returns
returns g c = object_told seen c.show_object.result _ _ c.in-Some.object.now.state (ap (option_map (λ (z : ObjectSeen). z.state)) (sym c.in-Some.ensures.value)) c.show_object.ensures
