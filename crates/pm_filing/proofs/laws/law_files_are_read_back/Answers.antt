use Rattle.pm_filing.proofs.Returning.{returned}
use Rattle.pm_filing.proofs.laws.law_files_are_read_back.Goals as goal

pub returns : goal.returns
returns c = returned
