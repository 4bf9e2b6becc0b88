use Rattle.pm_laws_texts.proofs.Found.{refusals_are_found}
use Rattle.pm_laws_texts.proofs.printed.law_refusals_are_found.Goals as goal

pub returns : goal.returns
returns c = refusals_are_found
