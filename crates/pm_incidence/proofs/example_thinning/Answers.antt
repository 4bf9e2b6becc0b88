use Rattle.pm_incidence.proofs.ThinExamples.{thinning_is_read}
use Rattle.pm_incidence.proofs.example_thinning.Goals as goal

pub returns : goal.returns
returns c = thinning_is_read
