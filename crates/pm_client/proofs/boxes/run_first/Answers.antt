use Rattle.pm_client.proofs.boxes.run_first.Goals as goal
use Rattle.std.proofs.Common.{rules}

pub returns-clause-started : goal.returns-clause-started
returns-clause-started g c = search rules
