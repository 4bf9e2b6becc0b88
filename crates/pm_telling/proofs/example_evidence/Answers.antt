use Rattle.pm_telling.proofs.TellingExamples.{evidence_is_told}
use Rattle.pm_telling.proofs.example_evidence.Goals as goal

pub returns : goal.returns
returns c = evidence_is_told
