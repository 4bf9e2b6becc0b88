use Rattle.pm_client.proofs.ThinningExamples.{thinning_is_read}
use Rattle.pm_client.proofs.example_thinning.Goals as goal

pub returns : goal.returns
returns c = thinning_is_read
