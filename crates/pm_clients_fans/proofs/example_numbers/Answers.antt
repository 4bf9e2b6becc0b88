use Rattle.pm_clients_fans.proofs.Examples.{numbers_are_read}
use Rattle.pm_clients_fans.proofs.example_numbers.Goals as goal

pub returns : goal.returns
returns c = numbers_are_read
