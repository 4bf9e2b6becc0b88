use Rattle.pm_object.proofs.Honesty.{honesty_is_of_values}
use Rattle.pm_object.proofs.laws.law_honesty_is_of_values.Goals as goal

pub returns : goal.returns
returns c = honesty_is_of_values
