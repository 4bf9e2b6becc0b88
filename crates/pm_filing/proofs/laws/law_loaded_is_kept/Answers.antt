use Rattle.pm_filing.proofs.Loaded.{loaded_is_kept}
use Rattle.pm_filing.proofs.laws.law_loaded_is_kept.Goals as goal

pub returns : goal.returns
returns c = loaded_is_kept
