use Rattle.pm_laws_placing.proofs.LeastSums.{least_cells_triangulate}
use Rattle.pm_laws_placing.proofs.law_least_cells_triangulate.Goals as goal

pub returns : goal.returns
returns c = least_cells_triangulate
