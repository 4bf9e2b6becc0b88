use Rattle.pm_laws_lineage.proofs.Examples.{given_values_are_read}
use Rattle.pm_laws_lineage.proofs.example_given_values.Goals as goal

pub returns : goal.returns
returns c = given_values_are_read
