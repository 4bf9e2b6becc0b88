use Rattle.pm_machine.proofs.RefusalExamples.{refusals_are_read}
use Rattle.pm_machine.proofs.laws.example_refusals.Goals as goal

pub returns : goal.returns
returns c = refusals_are_read
