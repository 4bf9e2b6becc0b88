use Rattle.pm_elim.proofs.LostExamples.{lost_eliminations_are_read, lost_steps_are_read}
use Rattle.pm_elim.proofs.example_lost.Goals as goal

pub returns : goal.returns
returns c = record { steps = lost_steps_are_read; eliminations = lost_eliminations_are_read }
