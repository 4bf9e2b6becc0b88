use Rattle.pm_files.proofs.WholeFiles.{file_whole}
use Rattle.pm_files.proofs.law_files_have_no_float.Goals as goal

pub returns : goal.returns
returns c = file_whole
