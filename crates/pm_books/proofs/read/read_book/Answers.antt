use Rattle.pm_books.specs.Grammar.{IsBookText}
use Rattle.pm_books.specs.Reading.{book_of}
use Rattle.pm_books.proofs.SpelledBooks.{only_book}
use Rattle.pm_books.proofs.FoundBooks.{found_book, if_ok_from_gives}
use Rattle.pm_books.proofs.read.read_book.Goals as goal

pub returns-clause-found : goal.returns-clause-found
returns-clause-found c =
    let kinds = c.args.kinds.now in
    let text = c.args.text.now in if_ok_from_gives c.read_all.result (book_of kinds text) (IsBookText kinds text) c.read_all.ensures (found_book kinds text)

pub returns-clause-only : goal.returns-clause-only
returns-clause-only c = λ rules h. (rw (only_book c.args.kinds.now c.args.text.now rules h) at c.read_all.ensures)
