-- What was read was ensured in part.
use Rattle.std.proofs.Common.{ap}
use Rattle.std.specs.Prelude.{string_bytes}
use Rattle.pm_command.specs.Builders.{builder_of, operands_of}
use Rattle.pm_command.specs.Commands.{build_object, spoken}
use Rattle.pm_machine.proofs.Names.{part_as}
use Rattle.pm_machine.proofs.session.Session.do_step.Goals as goal

pub returns-in-Build-clause-part : goal.returns-in-Build-clause-part
returns-in-Build-clause-part g c =
    part_as _ c.do_build.result _ (spoken c.args.c) (build_object (builder_of c.in-Build.what) (operands_of c.in-Build.what) (string_bytes c.in-Build.new)) _ _ (ap spoken c.in-Build.is) c.do_build.ensures.part
