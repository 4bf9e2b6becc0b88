use Rattle.pm_laws_complete.proofs.GivenExamples.{given_read}
use Rattle.pm_laws_complete.proofs.example_given.Goals as goal

pub returns : goal.returns
returns c = given_read
