use Rattle.pm_laws_texts.proofs.FirstOfBook.{first_fault_is_read}
use Rattle.pm_laws_texts.proofs.books.law_first_book_fault_is_read.Goals as goal

pub returns : goal.returns
returns c = first_fault_is_read
