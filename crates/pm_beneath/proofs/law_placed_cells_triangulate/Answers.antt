use Rattle.pm_beneath.proofs.PlaceOutcomes.{placed_cells_triangulate}
use Rattle.pm_beneath.proofs.law_placed_cells_triangulate.Goals as goal

pub returns : goal.returns
returns c = placed_cells_triangulate
