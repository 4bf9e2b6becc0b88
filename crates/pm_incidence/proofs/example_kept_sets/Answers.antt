use Rattle.pm_incidence.proofs.ThinExamples.{kept_are_read}
use Rattle.pm_incidence.proofs.example_kept_sets.Goals as goal

pub returns : goal.returns
returns c = kept_are_read
