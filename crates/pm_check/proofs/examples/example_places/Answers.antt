use Rattle.pm_check.proofs.WordExamples.{places_are_told}
use Rattle.pm_check.proofs.examples.example_places.Goals as goal

pub returns : goal.returns
returns c = places_are_told
