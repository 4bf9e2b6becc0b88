use Rattle.pm_laws_complete.proofs.LongerBooks.{wide_book_is_complete}
use Rattle.pm_laws_complete.proofs.law_wide_book_is_complete.Goals as goal

pub returns : goal.returns
returns c = wide_book_is_complete
