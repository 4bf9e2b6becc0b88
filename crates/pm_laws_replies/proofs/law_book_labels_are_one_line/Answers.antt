use Rattle.pm_laws_replies.proofs.Labels.{book_labels}
use Rattle.pm_laws_replies.proofs.law_book_labels_are_one_line.Goals as goal

pub returns : goal.returns
returns c = book_labels
