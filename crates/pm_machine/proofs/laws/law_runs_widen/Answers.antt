use Rattle.pm_client.specs.Meanings.{unsaid}
use Rattle.pm_machine.proofs.Narrowing.{part_more, run_more, step_more}
use Rattle.pm_machine.proofs.laws.law_runs_widen.Goals as goal
use Rattle.pm_rounds.proofs.Narrowing.{narrows_unsaid}

pub returns : goal.returns
returns g c = record {
  steps = λ book old new command reply s. step_more unsaid _ (narrows_unsaid _) book old new command reply s;
  parts = λ book old new command s. part_more unsaid _ (narrows_unsaid _) book old command new s;
  runs = λ book old new lines replies r. run_more unsaid _ (narrows_unsaid _) book old lines replies new r;
}
