use Rattle.pm_laws_lineage.proofs.Savable.{made_are_savable}
use Rattle.pm_laws_lineage.proofs.law_made_are_savable.Goals as goal

pub returns : goal.returns
returns c = made_are_savable
