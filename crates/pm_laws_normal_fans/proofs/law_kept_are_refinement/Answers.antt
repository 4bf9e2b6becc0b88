use Rattle.pm_laws_normal_fans.proofs.Refinements.{kept_are_refinement}
use Rattle.pm_laws_normal_fans.proofs.law_kept_are_refinement.Goals as goal

pub returns : goal.returns
returns c = kept_are_refinement
