use Rattle.pm_files.proofs.FileExamples.{files}
use Rattle.pm_files.proofs.example_files.Goals as goal

pub returns : goal.returns
returns c = files
