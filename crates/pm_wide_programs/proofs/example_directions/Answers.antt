use Rattle.pm_wide_programs.proofs.Examples.{directions_are_read}
use Rattle.pm_wide_programs.proofs.example_directions.Goals as goal

pub returns : goal.returns
returns c = directions_are_read
