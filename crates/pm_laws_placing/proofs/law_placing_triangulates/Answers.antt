use Rattle.pm_laws_placing.proofs.Triangulates.{placing_triangulates}
use Rattle.pm_laws_placing.proofs.law_placing_triangulates.Goals as goal

pub returns : goal.returns
returns c = placing_triangulates
