use Rattle.pm_filing.proofs.Saved.{saved_whole}
use Rattle.pm_filing.proofs.laws.law_saved_is_whole.Goals as goal

pub returns : goal.returns
returns c = saved_whole
