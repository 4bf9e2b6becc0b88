use Rattle.pm_laws_fitting.proofs.Laws.{what_fits_is_answered}
use Rattle.pm_laws_fitting.proofs.law_what_fits_is_answered.Goals as goal

pub returns : goal.returns
returns c = what_fits_is_answered
