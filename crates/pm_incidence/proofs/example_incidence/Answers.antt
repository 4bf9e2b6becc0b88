use Rattle.pm_incidence.proofs.Examples.{incidence_is_read}
use Rattle.pm_incidence.proofs.example_incidence.Goals as goal

pub returns : goal.returns
returns c = incidence_is_read
