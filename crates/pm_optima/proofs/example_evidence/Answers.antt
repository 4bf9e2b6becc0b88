use Rattle.pm_optima.proofs.Examples.{evidence_is_read}
use Rattle.pm_optima.proofs.example_evidence.Goals as goal

pub returns : goal.returns
returns c = evidence_is_read
