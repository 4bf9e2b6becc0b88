use Rattle.pm_redund.proofs.SmallRows.{refusals_are_read}
use Rattle.pm_redund.proofs.example_refusals.Goals as goal

pub returns : goal.returns
returns c = refusals_are_read
