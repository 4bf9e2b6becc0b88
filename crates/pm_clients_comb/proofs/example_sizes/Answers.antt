use Rattle.pm_clients_comb.proofs.Examples.{sizes_are_read}
use Rattle.pm_clients_comb.proofs.example_sizes.Goals as goal

pub returns : goal.returns
returns c = sizes_are_read
