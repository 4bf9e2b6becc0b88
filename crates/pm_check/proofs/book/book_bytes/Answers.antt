use Rattle.std.proofs.Common.{inr, rules}
use Rattle.pm_check.proofs.Files.{found_long, found_none, found_whole}
use Rattle.pm_check.proofs.book.book_bytes.Goals as goal

pub returns-then-len-le-MOST_FILE_BYTES-clause-found : goal.returns-then-len-le-MOST_FILE_BYTES-clause-found
returns-then-len-le-MOST_FILE_BYTES-clause-found g c =
    found_whole (g.F.Store.files c.args.store.now) c.args.name.now c.in-Ok-Some.bytes.items (rw c.in-Ok-Some.field-0-is at c.in-Ok-Some.ensures.finds) (search rules)

pub returns-else-len-le-MOST_FILE_BYTES-clause-refused : goal.returns-else-len-le-MOST_FILE_BYTES-clause-refused
returns-else-len-le-MOST_FILE_BYTES-clause-refused g c = λ h.
    inr (found_long (g.F.Store.files c.args.store.now) c.args.name.now c.in-Ok-Some.bytes.items (rw c.in-Ok-Some.field-0-is at c.in-Ok-Some.ensures.finds) (search rules))

pub returns-in-Ok-None-clause-refused : goal.returns-in-Ok-None-clause-refused
returns-in-Ok-None-clause-refused g c = λ h. inr (found_none (g.F.Store.files c.args.store.now) c.args.name.now (rw c.in-Ok-None.field-0-is at c.in-Ok-None.ensures.finds))
