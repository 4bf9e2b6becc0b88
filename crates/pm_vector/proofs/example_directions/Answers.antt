use Rattle.pm_vector.proofs.DirectionExamples.{directions_are_read}
use Rattle.pm_vector.proofs.example_directions.Goals as goal

pub returns : goal.returns
returns c = directions_are_read
