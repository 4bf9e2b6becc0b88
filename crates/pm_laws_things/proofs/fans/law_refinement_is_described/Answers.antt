use Rattle.pm_laws_things.proofs.RefinedRows.{refinement_described}
use Rattle.pm_laws_things.proofs.fans.law_refinement_is_described.Goals as goal

pub returns : goal.returns
returns c = refinement_described
