use Rattle.pm_files.proofs.EvidenceExamples.{written}
use Rattle.pm_files.proofs.example_evidence.Goals as goal

pub returns : goal.returns
returns c = written
