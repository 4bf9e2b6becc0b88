use Rattle.pm_files.proofs.Plain.{value_whole}
use Rattle.pm_files.proofs.law_values_have_no_float.Goals as goal

pub returns : goal.returns
returns c = value_whole
