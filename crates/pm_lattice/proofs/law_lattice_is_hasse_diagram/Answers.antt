use Rattle.pm_lattice.proofs.Hasse.{lattice_is_hasse_diagram}
use Rattle.pm_lattice.proofs.law_lattice_is_hasse_diagram.Goals as goal

pub returns : goal.returns
returns c = lattice_is_hasse_diagram
