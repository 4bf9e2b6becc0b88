-- With the kinds of the clients that are left, the kinds are all.
use Rattle.std.specs.Prelude.{map}
use Rattle.pm_run.proofs.Books.{WithLeft}
use Rattle.pm_run.proofs.book.book_kinds.Given as goal

abbrev pub invariant-loop-client : goal.invariant-loop-client
invariant-loop-client g l =
    WithLeft l.kinds.items (map (λ b. (goal.Client-dyn g (b.vtable, b.value)).tally b.value) l.clients) l.client-index
    (map (λ b. (goal.Client-dyn g (b.vtable, b.value)).tally b.value) l.clients)
