use Rattle.pm_client.proofs.boxes.place_of.Given as goal
use Rattle.pm_client.specs.Starts.{place_in}
use Rattle.std.proofs.Common.{drop, ◌≡◌}
use Rattle.std.specs.Prelude.{map}

abbrev pub invariant-loop-i : goal.invariant-loop-i
invariant-loop-i g l =
    place_in l.kind 0 (map (λ b. (goal.Client-dyn g (b.vtable, b.value)).tally b.value) l.clients)
    ≡ place_in l.kind l.i (drop l.i (map (λ b. (goal.Client-dyn g (b.vtable, b.value)).tally b.value) l.clients))
