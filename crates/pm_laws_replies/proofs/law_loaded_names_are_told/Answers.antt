use Rattle.pm_laws_replies.proofs.Ignored.{loaded_names}
use Rattle.pm_laws_replies.proofs.law_loaded_names_are_told.Goals as goal

pub returns : goal.returns
returns c = loaded_names
