use Rattle.pm_machine.proofs.BuildingExamples.{operands_are_read}
use Rattle.pm_machine.proofs.laws.example_operands.Goals as goal

pub returns : goal.returns
returns c = operands_are_read
