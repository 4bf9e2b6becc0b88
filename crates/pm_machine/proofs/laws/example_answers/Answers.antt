use Rattle.pm_machine.proofs.Examples.{answers_are_read}
use Rattle.pm_machine.proofs.laws.example_answers.Goals as goal

pub returns : goal.returns
returns c = answers_are_read
