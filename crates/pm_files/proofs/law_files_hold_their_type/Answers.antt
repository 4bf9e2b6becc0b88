use Rattle.pm_files.proofs.Members.{type_stands}
use Rattle.pm_files.proofs.law_files_hold_their_type.Goals as goal

pub returns : goal.returns
returns c = type_stands
