use Rattle.pm_dd.proofs.Examples.{quadrant_is_read}
use Rattle.pm_dd.proofs.example_quadrant.Goals as goal

pub returns : goal.returns
returns c = quadrant_is_read
