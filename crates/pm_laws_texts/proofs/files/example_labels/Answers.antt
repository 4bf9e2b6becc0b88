use Rattle.pm_laws_texts.proofs.LabelExamples.{labels}
use Rattle.pm_laws_texts.proofs.files.example_labels.Goals as goal

pub returns : goal.returns
returns c = labels
