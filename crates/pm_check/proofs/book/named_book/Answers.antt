use Rattle.std.proofs.Common.{inr, subst}
use Rattle.pm_check.specs.Books.{IsRefusedText}
use Rattle.pm_check.proofs.Files.{refused_named}
use Rattle.pm_check.proofs.book.named_book.Goals as goal

pub returns-in-Ok-clause-refused : goal.returns-in-Ok-clause-refused
returns-in-Ok-clause-refused g c = λ h.
    inr (refused_named (g.F.Store.files c.args.store.now) c.args.name.now c.in-Ok.bytes.items (rw c.in-Ok.is at c.book_bytes.ensures.found) (subst IsRefusedText c.deref.ensures.value (c.book_of_bytes.ensures.refused h)))
