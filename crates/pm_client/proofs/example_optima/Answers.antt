use Rattle.pm_client.proofs.OptimumExamples.{optima_are_read}
use Rattle.pm_client.proofs.example_optima.Goals as goal

pub returns : goal.returns
returns c = optima_are_read
