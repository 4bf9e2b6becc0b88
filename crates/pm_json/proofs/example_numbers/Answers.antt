use Rattle.pm_json.proofs.Examples.{numbers}
use Rattle.pm_json.proofs.example_numbers.Goals as goal

pub returns : goal.returns
returns c = numbers
