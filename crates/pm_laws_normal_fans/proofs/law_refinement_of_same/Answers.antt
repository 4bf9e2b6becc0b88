use Rattle.pm_laws_normal_fans.proofs.SameRefinements.{refinement_of_same}
use Rattle.pm_laws_normal_fans.proofs.law_refinement_of_same.Goals as goal

pub returns : goal.returns
returns c = refinement_of_same
