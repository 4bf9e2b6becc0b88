use Rattle.pm_laws_texts.proofs.BookExamples.{faults_stand, order_decides}
use Rattle.pm_laws_texts.proofs.books.example_book_faults.Goals as goal

pub returns-clause-faults : goal.returns-clause-faults
returns-clause-faults c = faults_stand

pub returns-clause-order : goal.returns-clause-order
returns-clause-order c = order_decides
