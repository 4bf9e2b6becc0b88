use Rattle.pm_laws_replies.proofs.Values.{same_value_told}
use Rattle.pm_laws_replies.proofs.law_shown_texts_tell_values.Goals as goal

pub returns : goal.returns
returns c = same_value_told
