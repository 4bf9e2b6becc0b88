-- The object of the new name is added, last; the others stay.
use Rattle.pm_machine.proofs.Names.{gains_one}
use Rattle.std.proofs.Common.{refl}
use Rattle.pm_machine.proofs.session.Session.add.Goals as goal

pub returns-clause-gains : goal.returns-clause-gains
returns-clause-gains c =
    gains_one c.args.self.now.objects c.insert.new.self c.args.name c.args.object _ _ c.requires c.in_ok-insert.ensures.entries c.in_ok-insert.ensures.updates refl
