use Rattle.pm_machine.proofs.Kept.{steps_keep}
use Rattle.pm_machine.proofs.laws.law_steps_keep.Goals as goal

pub returns : goal.returns
returns c = steps_keep
