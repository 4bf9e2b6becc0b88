use Rattle.pm_laws_texts.proofs.FileExamples.{keys_are_named}
use Rattle.pm_laws_texts.proofs.faults.example_keys.Goals as goal

pub returns : goal.returns
returns c = keys_are_named
