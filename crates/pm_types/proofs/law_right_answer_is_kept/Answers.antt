-- The law is a lemma of Kept.
use Rattle.pm_types.proofs.Kept.{kept}
use Rattle.pm_types.proofs.law_right_answer_is_kept.Goals as goal

pub returns : goal.returns
returns c = kept
