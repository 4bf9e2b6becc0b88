use Rattle.pm_vector.proofs.BasisExamples.{bases_are_read}
use Rattle.pm_vector.proofs.example_bases.Goals as goal

pub returns : goal.returns
returns c = bases_are_read
