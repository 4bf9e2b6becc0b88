use Rattle.pm_laws_placing.proofs.Once.{new_cells_are_once}
use Rattle.pm_laws_placing.proofs.law_new_cells_are_once.Goals as goal

pub returns : goal.returns
returns c = new_cells_are_once
