use Rattle.pm_dual.proofs.Examples.{search_objectives_are_read}
use Rattle.pm_dual.proofs.example_search_objectives.Goals as goal

pub returns : goal.returns
returns c = search_objectives_are_read
