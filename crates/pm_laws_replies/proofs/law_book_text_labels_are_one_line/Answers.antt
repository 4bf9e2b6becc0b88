use Rattle.pm_laws_replies.proofs.Labels.{text_labels}
use Rattle.pm_laws_replies.proofs.law_book_text_labels_are_one_line.Goals as goal

pub returns : goal.returns
returns c = text_labels
