use Rattle.pm_telling.proofs.TellingExamples.{held_is_told}
use Rattle.pm_telling.proofs.example_held.Goals as goal

pub returns : goal.returns
returns c = held_is_told
