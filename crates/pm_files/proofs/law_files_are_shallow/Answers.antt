use Rattle.pm_files.proofs.WholeFiles.{file_depth}
use Rattle.pm_files.proofs.law_files_are_shallow.Goals as goal

pub returns : goal.returns
returns c = file_depth
