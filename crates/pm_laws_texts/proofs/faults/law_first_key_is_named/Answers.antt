use Rattle.pm_laws_texts.proofs.FileFaults.{first_key_is_named}
use Rattle.pm_laws_texts.proofs.faults.law_first_key_is_named.Goals as goal

pub returns : goal.returns
returns c = first_key_is_named
