use Rattle.pm_laws_texts.proofs.Found.{plans_are_printed}
use Rattle.pm_laws_texts.proofs.printed.law_plans_are_printed.Goals as goal

pub returns : goal.returns
returns c = plans_are_printed
