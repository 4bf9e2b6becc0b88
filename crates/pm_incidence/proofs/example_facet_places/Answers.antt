use Rattle.pm_incidence.proofs.PlaceExamples.{facet_places_are_read}
use Rattle.pm_incidence.proofs.example_facet_places.Goals as goal

pub returns : goal.returns
returns c = facet_places_are_read
