use Rattle.pm_simplex.proofs.EvidenceLaws.{pivots_have_places}
use Rattle.pm_simplex.proofs.example_pivots.Goals as goal

pub returns : goal.returns
returns c = pivots_have_places
