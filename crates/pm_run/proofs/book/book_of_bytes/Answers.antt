use Rattle.std.proofs.lemmas.Result.{err_from_is_err_and}
use Rattle.pm_run.proofs.Books.{refused_text}
use Rattle.pm_run.proofs.book.book_of_bytes.Goals as goal

pub returns-in_err-book-clause-refused : goal.returns-in_err-book-clause-refused
returns-in_err-book-clause-refused g c =
    let p = err_from_is_err_and c.from_residual-in_err-book.result c.from_residual-in_err-book.ensures.1 in
    λ h. refused_text _ c.args.bytes.now c.in-Ok.text.now c.in_ok-kinds.kinds.items c.deref.result.now c.read_book.result c.in_err-book.field-0.0
    c.in-Ok.ensures.cases.0 c.deref.ensures.value c.in_ok-kinds.ensures c.in_err-book.was (p.2 (cc (p.1, h))) c.read_book.ensures.only
