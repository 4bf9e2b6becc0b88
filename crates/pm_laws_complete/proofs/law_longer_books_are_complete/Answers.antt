use Rattle.pm_laws_complete.proofs.LongerBooks.{longer_books_are_complete}
use Rattle.pm_laws_complete.proofs.law_longer_books_are_complete.Goals as goal

pub returns : goal.returns
returns c = longer_books_are_complete
