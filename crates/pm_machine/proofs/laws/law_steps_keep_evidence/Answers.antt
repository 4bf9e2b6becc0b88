use Rattle.pm_machine.proofs.Standing.{steps_keep_evidence}
use Rattle.pm_machine.proofs.laws.law_steps_keep_evidence.Goals as goal

pub returns : goal.returns
returns c = steps_keep_evidence
