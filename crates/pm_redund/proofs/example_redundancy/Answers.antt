use Rattle.pm_redund.proofs.SmallRows.{redundancy_is_read}
use Rattle.pm_redund.proofs.example_redundancy.Goals as goal

pub returns : goal.returns
returns c = redundancy_is_read
