use Rattle.pm_laws_placing.proofs.PlacingStep.{placing_step}
use Rattle.pm_laws_placing.proofs.law_placing_step.Goals as goal

pub returns : goal.returns
returns c = placing_step
