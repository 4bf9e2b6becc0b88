-- The object of the shape's values is made, or the first condition that fails is told.
use Rattle.std.proofs.Common.{subst}
use Rattle.std.specs.Prelude.{[], string_bytes}
use Rattle.pm_command.specs.Commands.{seen_shape}
use Rattle.pm_machine.proofs.BuildSteps.{make_step, none_told}
use Rattle.pm_machine.proofs.Ensuring.{stays_itself}
use Rattle.pm_making.proofs.Fits.{still_made}
use Rattle.pm_machine.specs.Building.{is_refused, no_new_name}
use Rattle.pm_machine.specs.Machines.{IsNewName, shelf}
use Rattle.pm_machine.specs.Sessions.{machine_of}
use Rattle.pm_object.specs.Views.{round_seen}
use Rattle.pm_script.specs.Replies.{seen}
use Rattle.pm_machine.proofs.session.Session.do_make.Goals as goal

pub add_made-requires-clause-fitting : goal.add_made-requires-clause-fitting
add_made-requires-clause-fitting g c = rw c.of_built-built.ensures (still_made c.build_shape.result _ c.build_shape.ensures.fitting)

pub returns-clause-step : goal.returns-clause-step
returns-clause-step g c =
    let old = machine_of c.args.self.now [] in
    make_step seen c.add_made.result (string_bytes c.args.new) (seen_shape c.args.shape) c.build_shape.result _ _ old (machine_of c.add_made.new.self [])
    (subst (λ z. IsNewName (shelf old) z) c.as_str.ensures.value c.in_default.ensures.none) (none_told round_seen c.new.result.items _ c.new.ensures.items c.none.ensures)
    c.build_shape.ensures.built c.build_shape.ensures.fits c.build_shape.ensures.refused (rw c.of_built-built.ensures at c.add_made.ensures.made)

pub returns-in-Some-clause-step : goal.returns-in-Some-clause-step
returns-in-Some-clause-step g c = rw c.refused.ensures (is_refused (no_new_name (rw c.as_str.ensures.value at c.in-Some.ensures.some)) (stays_itself _))
