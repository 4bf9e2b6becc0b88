use Rattle.pm_laws_lineage.proofs.Examples.{program_of_polar_is_shown}
use Rattle.pm_laws_lineage.proofs.example_program_of_polar.Goals as goal

pub returns : goal.returns
returns c = program_of_polar_is_shown
