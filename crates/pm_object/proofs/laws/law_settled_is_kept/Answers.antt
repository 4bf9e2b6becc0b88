use Rattle.pm_object.proofs.Honesty.{settled_is_kept}
use Rattle.pm_object.proofs.laws.law_settled_is_kept.Goals as goal

pub returns : goal.returns
returns c = settled_is_kept
