use Rattle.pm_standard.proofs.StandardBook.{standard_first}
use Rattle.pm_standard.proofs.law_standard_kinds_are_first.Goals as goal

pub returns : goal.returns
returns c = standard_first
