use Rattle.pm_optima.proofs.Examples.{quotients_are_read}
use Rattle.pm_optima.proofs.example_quotients.Goals as goal

pub returns : goal.returns
returns c = quotients_are_read
