use Rattle.pm_lattice.proofs.Uneven.{uneven_is_read}
use Rattle.pm_lattice.proofs.example_uneven.Goals as goal

pub returns : goal.returns
returns c = uneven_is_read
