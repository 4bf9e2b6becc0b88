use Rattle.pm_object.proofs.Objectives.{objective_is_kept}
use Rattle.pm_object.proofs.laws.law_objective_is_kept.Goals as goal

pub returns : goal.returns
returns c = objective_is_kept
