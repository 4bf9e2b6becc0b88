use Rattle.pm_files.proofs.Members.{values_stand}
use Rattle.pm_files.proofs.law_files_hold_their_values.Goals as goal

pub returns : goal.returns
returns c = values_stand
