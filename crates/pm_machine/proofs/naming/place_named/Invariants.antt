use Rattle.pm_machine.proofs.Unloading.{NotBefore}
use Rattle.std.specs.Prelude.{map}
use Rattle.pm_machine.proofs.naming.place_named.Given as goal

abbrev pub invariant-loop-i : goal.invariant-loop-i
invariant-loop-i g l = NotBefore l.name (map (λ b. (goal.Client-dyn g (b.vtable, b.value)).tally b.value) l.clients) l.i
