use Rattle.pm_client.proofs.LatticeExamples.{lattices_are_read}
use Rattle.pm_client.proofs.example_lattices.Goals as goal

pub returns : goal.returns
returns c = lattices_are_read
