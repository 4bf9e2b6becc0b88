use Rattle.pm_laws_complete.proofs.Examples.{descriptions_read}
use Rattle.pm_laws_complete.proofs.example_descriptions.Goals as goal

pub returns : goal.returns
returns c = descriptions_read
