use Rattle.pm_files.proofs.Examples.{numbers}
use Rattle.pm_files.proofs.example_numbers.Goals as goal

pub returns : goal.returns
returns c = numbers
