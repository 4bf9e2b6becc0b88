use Rattle.pm_laws_texts.proofs.Found.{plans_are_found_least}
use Rattle.pm_laws_texts.proofs.printed.law_plans_are_found_least.Goals as goal

pub returns : goal.returns
returns c = plans_are_found_least
