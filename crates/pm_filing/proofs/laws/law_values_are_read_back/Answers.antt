use Rattle.pm_filing.proofs.ReadBack.{values_back}
use Rattle.pm_filing.proofs.laws.law_values_are_read_back.Goals as goal

pub returns : goal.returns
returns c = values_back
