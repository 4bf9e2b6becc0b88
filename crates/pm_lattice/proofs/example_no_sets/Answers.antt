use Rattle.pm_lattice.proofs.Points.{no_sets_are_read}
use Rattle.pm_lattice.proofs.example_no_sets.Goals as goal

pub returns : goal.returns
returns c = no_sets_are_read
