use Rattle.pm_object.proofs.Honesty.{empty_is_kept}
use Rattle.pm_object.proofs.laws.law_empty_is_kept.Goals as goal

pub returns : goal.returns
returns c = empty_is_kept
