use Rattle.pm_laws_things.proofs.ExistingRefinements.{refinements_exist}
use Rattle.pm_laws_things.proofs.fans.law_refinements_exist.Goals as goal

pub returns : goal.returns
returns c = refinements_exist
