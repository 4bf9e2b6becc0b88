use Rattle.pm_laws_texts.proofs.ValueExamples.{faults_stand, places_are_ordered}
use Rattle.pm_laws_texts.proofs.faults.example_faults.Goals as goal

pub returns-clause-places : goal.returns-clause-places
returns-clause-places c = places_are_ordered

pub returns-clause-faults : goal.returns-clause-faults
returns-clause-faults c = faults_stand
