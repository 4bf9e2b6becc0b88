use Rattle.std.proofs.Common.{ap, inr}
use Rattle.std.specs.Prelude.{option_map}
use Rattle.pm_run.proofs.Books.{absent_file, found_in_file, refused_file}
use Rattle.pm_run.proofs.book.named_book.Goals as goal

pub returns-in-Some-clause-found : goal.returns-in-Some-clause-found
returns-in-Some-clause-found g c =
    found_in_file _ _ c.args.name.now c.in-Some.bytes.items c.deref.result.now _ c.book_of_bytes.result c.in_ok-found.ensures.finds
    (ap (option_map (λ v. v.items)) c.in-Some.is) c.deref.ensures.value c.book_of_bytes.ensures.found

pub returns-in-Some-clause-refused : goal.returns-in-Some-clause-refused
returns-in-Some-clause-refused g c =
    λ h. inr (refused_file _ _ c.args.name.now c.in-Some.bytes.items (rw c.in-Some.is at c.in_ok-found.ensures.finds) (rw c.deref.ensures.value at (c.book_of_bytes.ensures.refused h)))

pub returns-in-None-clause-refused : goal.returns-in-None-clause-refused
returns-in-None-clause-refused g c = λ h. inr (absent_file _ _ c.args.name.now (rw c.in-None.is at c.in_ok-found.ensures.finds))
