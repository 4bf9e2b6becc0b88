use Rattle.pm_rounds.proofs.Examples.{meanings_count}
use Rattle.pm_rounds.proofs.laws.example_meanings.Goals as goal

pub returns : goal.returns
returns c = meanings_count
