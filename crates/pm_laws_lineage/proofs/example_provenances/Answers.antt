use Rattle.pm_laws_lineage.proofs.Examples.{provenances_are_read}
use Rattle.pm_laws_lineage.proofs.example_provenances.Goals as goal

pub returns : goal.returns
returns c = provenances_are_read
