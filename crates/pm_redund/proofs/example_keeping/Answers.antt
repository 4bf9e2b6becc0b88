use Rattle.pm_redund.proofs.SmallKeeping.{keeping_is_read}
use Rattle.pm_redund.proofs.example_keeping.Goals as goal

pub returns : goal.returns
returns c = keeping_is_read
