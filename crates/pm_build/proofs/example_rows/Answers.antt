use Rattle.pm_build.proofs.Examples.{rows}
use Rattle.pm_build.proofs.example_rows.Goals as goal

pub returns : goal.returns
returns c = rows
