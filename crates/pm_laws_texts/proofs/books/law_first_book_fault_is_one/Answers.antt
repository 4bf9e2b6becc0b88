use Rattle.pm_laws_texts.proofs.One.{first_fault_is_one}
use Rattle.pm_laws_texts.proofs.books.law_first_book_fault_is_one.Goals as goal

pub returns : goal.returns
returns c = first_fault_is_one
