use Rattle.pm_laws_lineage.proofs.Parts.{steps_in_part_keep_lineage}
use Rattle.pm_laws_lineage.proofs.law_steps_in_part_keep_lineage.Goals as goal

pub returns : goal.returns
returns c = steps_in_part_keep_lineage
