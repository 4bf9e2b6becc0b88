use Rattle.pm_fan.proofs.ExampleDims.{dimensions}
use Rattle.pm_fan.proofs.example_dimensions.Goals as goal

pub returns : goal.returns
returns c = dimensions
