use Rattle.pm_laws_lineage.proofs.Runs.{run_keeps_lineage}
use Rattle.pm_laws_lineage.proofs.law_run_keeps_lineage.Goals as goal

pub returns : goal.returns
returns c = run_keeps_lineage
