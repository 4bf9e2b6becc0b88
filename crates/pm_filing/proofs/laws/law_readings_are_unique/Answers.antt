use Rattle.pm_filing.proofs.Unique.{readings_are_unique}
use Rattle.pm_filing.proofs.laws.law_readings_are_unique.Goals as goal

pub returns : goal.returns
returns c = readings_are_unique
