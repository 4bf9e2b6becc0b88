use Rattle.pm_machine.proofs.Examples.{files_are_kept}
use Rattle.pm_machine.proofs.laws.example_files.Goals as goal

pub returns : goal.returns
returns c = files_are_kept
