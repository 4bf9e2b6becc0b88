use Rattle.pm_laws_texts.proofs.Found.{refusals_are_printed}
use Rattle.pm_laws_texts.proofs.printed.law_refusals_are_printed.Goals as goal

pub returns : goal.returns
returns c = refusals_are_printed
