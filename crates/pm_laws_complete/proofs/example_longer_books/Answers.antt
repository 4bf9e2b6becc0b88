use Rattle.pm_laws_complete.proofs.GivenExamples.{longer_books_read}
use Rattle.pm_laws_complete.proofs.example_longer_books.Goals as goal

pub returns : goal.returns
returns c = longer_books_read
