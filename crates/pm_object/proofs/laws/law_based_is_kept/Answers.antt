use Rattle.pm_object.proofs.Honesty.{based_is_kept}
use Rattle.pm_object.proofs.laws.law_based_is_kept.Goals as goal

pub returns : goal.returns
returns c = based_is_kept
