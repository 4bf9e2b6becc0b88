use Rattle.std.proofs.Common.{◌≡◌, string_bytes, subst, sym}
use Rattle.std.specs.Result.{IfOk}
use Rattle.pm_rules.specs.Books.{IsBook}
use Rattle.pm_books.specs.Grammar.{IsBookText}
use Rattle.pm_books.specs.Writing.{text_of}
use Rattle.pm_books.proofs.PrintedBooks.{printed_book, if_ok_more}
use Rattle.pm_books.proofs.write.book_text.Goals as goal

pub returns : goal.returns
returns c =
    let book = c.args.book.now in
    let is : IsBook book = subst IsBook c.rules.ensures.value c.rules.ensures.book in
    let text : IfOk c.printed.result (λ s. string_bytes s ≡ text_of book) = subst (λ rules. IfOk c.printed.result (λ s. string_bytes s ≡ text_of rules)) c.rules.ensures.value c.printed.ensures in
    record {
      text = text;
      back = λ kinds firsts. if_ok_more c.printed.result (λ s. string_bytes s ≡ text_of book) (λ s. IsBookText kinds (string_bytes s) book) text
          (λ s e. subst (λ bytes. IsBookText kinds bytes book) (sym e) (printed_book kinds book is firsts));
    }
