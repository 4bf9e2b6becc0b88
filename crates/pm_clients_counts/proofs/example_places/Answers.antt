use Rattle.pm_clients_counts.proofs.Examples.{places_are_read}
use Rattle.pm_clients_counts.proofs.example_places.Goals as goal

pub returns : goal.returns
returns c = places_are_read
