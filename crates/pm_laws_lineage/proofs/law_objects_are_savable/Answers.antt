use Rattle.pm_laws_lineage.proofs.Saving.{objects_are_savable}
use Rattle.pm_laws_lineage.proofs.law_objects_are_savable.Goals as goal

pub returns : goal.returns
returns c = objects_are_savable
