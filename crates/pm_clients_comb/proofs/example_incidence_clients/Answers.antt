use Rattle.pm_clients_comb.proofs.Examples.{incidence_is_read}
use Rattle.pm_clients_comb.proofs.example_incidence_clients.Goals as goal

pub returns : goal.returns
returns c = incidence_is_read
