use Rattle.pm_rules.proofs.Followed.{useful_part_leads}
use Rattle.pm_rules.proofs.laws.law_useful_part.Goals as goal

pub returns : goal.returns
returns c = λ book names barred held asked. useful_part_leads book names barred asked held
