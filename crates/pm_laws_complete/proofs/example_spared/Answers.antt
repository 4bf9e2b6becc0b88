use Rattle.pm_laws_complete.proofs.SparedLaws.{spared_is_read}
use Rattle.pm_laws_complete.proofs.example_spared.Goals as goal

pub returns : goal.returns
returns c = spared_is_read
