use Rattle.pm_clients_graph.proofs.Examples.{counts_are_read}
use Rattle.pm_clients_graph.proofs.example_counts.Goals as goal

pub returns : goal.returns
returns c = counts_are_read
