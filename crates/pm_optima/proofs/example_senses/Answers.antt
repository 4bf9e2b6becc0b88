use Rattle.pm_optima.proofs.Examples.{senses_are_read}
use Rattle.pm_optima.proofs.example_senses.Goals as goal

pub returns : goal.returns
returns c = senses_are_read
