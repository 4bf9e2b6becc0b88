use Rattle.pm_laws_texts.proofs.Values.{first_fault_is_read}
use Rattle.pm_laws_texts.proofs.faults.law_first_fault_is_read.Goals as goal

pub returns : goal.returns
returns c = first_fault_is_read
