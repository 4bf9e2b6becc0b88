use Rattle.pm_laws_values.proofs.TwoDuals.{two_values_are_read}
use Rattle.pm_laws_values.proofs.example_two_values.Goals as goal

pub returns : goal.returns
returns c = two_values_are_read
