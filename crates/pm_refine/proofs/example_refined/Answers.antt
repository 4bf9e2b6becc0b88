use Rattle.pm_refine.proofs.Examples.{refined_are_read}
use Rattle.pm_refine.proofs.example_refined.Goals as goal

pub returns : goal.returns
returns c = refined_are_read
