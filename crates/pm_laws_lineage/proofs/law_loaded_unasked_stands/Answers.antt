use Rattle.pm_laws_lineage.proofs.Savable.{loaded_unasked_stands}
use Rattle.pm_laws_lineage.proofs.law_loaded_unasked_stands.Goals as goal

pub returns : goal.returns
returns c = loaded_unasked_stands
