-- What was built of the objects is made, or the condition that fails is told.
use Rattle.std.specs.Prelude.{[], string_bytes}
use Rattle.pm_command.specs.Builders.{builder_of, operands_of}
use Rattle.pm_machine.proofs.BuildSteps.{builds_all}
use Rattle.pm_machine.specs.Sessions.{machine_of}
use Rattle.pm_script.specs.Replies.{seen}
use Rattle.pm_machine.proofs.session.Session.build_read.Goals as goal

pub returns-clause-builds : goal.returns-clause-builds
returns-clause-builds c =
    builds_all seen c.add_made.result (builder_of c.args.what.now) (operands_of c.args.what.now) (string_bytes c.args.new) c.build-built.result _ (machine_of c.args.self.now []) (machine_of c.add_made.new.self [])
    c.build-built.ensures.built c.add_made.ensures.made
