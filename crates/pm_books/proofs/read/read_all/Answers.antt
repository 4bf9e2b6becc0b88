use Rattle.std.proofs.lemmas.Result.{err_from_is_err_and}
use Rattle.pm_books.specs.Reading.{book_of}
use Rattle.pm_books.proofs.read.read_all.Goals as goal

pub returns-in_err-rules : goal.returns-in_err-rules
unfolding book_of
returns-in_err-rules c =
    let p = err_from_is_err_and c.from_residual-in_err-rules.result c.from_residual-in_err-rules.ensures.1 in
    rw (p.1, p.2) (rw (c.new.ensures.items, c.as_slice.ensures.value, c.in_ok-list.ensures, c.as_bytes-bytes.ensures.value) at c.in_err-rules.ensures.value)

pub returns : goal.returns
unfolding book_of
returns c =
    rw c.of_rules.ensures (rw (c.new.ensures.items, c.as_slice.ensures.value, c.in_ok-list.ensures, c.as_bytes-bytes.ensures.value) at c.in_ok-rules.ensures.value)
