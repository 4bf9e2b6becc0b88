use Rattle.pm_machine.proofs.Kept.{steps_in_part_keep}
use Rattle.pm_machine.proofs.laws.law_steps_in_part_keep.Goals as goal

pub returns : goal.returns
returns c = steps_in_part_keep
