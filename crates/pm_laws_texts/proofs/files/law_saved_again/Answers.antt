use Rattle.pm_laws_texts.proofs.SavedAgain.{saved_again}
use Rattle.pm_laws_texts.proofs.files.law_saved_again.Goals as goal

pub returns : goal.returns
returns c = saved_again
