use Rattle.pm_laws_complete.proofs.Complete.{book_is_complete}
use Rattle.pm_laws_complete.proofs.law_standard_book_is_complete.Goals as goal

pub returns : goal.returns
returns c = book_is_complete
