use Rattle.pm_client.specs.Meanings.{Meanings, Narrows, meanings}
use Rattle.pm_rounds.proofs.Following.{StillToFollow}
use Rattle.std.proofs.Common.{drop}
use Rattle.std.specs.Prelude.{map}
use Rattle.pm_rounds.proofs.round.follow_chain.Given as goal

abbrev pub invariant-loop-id : goal.invariant-loop-id
invariant-loop-id g l = record {
  still : StillToFollow (meanings (λ b. (goal.Client-dyn g (b.vtable, b.value)).tally b.value) (λ b. (goal.Client-dyn g (b.vtable, b.value)).MayPut b.value) (λ b. (goal.Client-dyn g (b.vtable, b.value)).MayFail b.value) l.fn.clients.items)
      l.rules l.sub l.chain l.fn.object.state (map (λ b. (goal.Client-dyn g (b.vtable, b.value)).tally b.value) l.fn.clients.items)
      (drop l.id-index l.chain) l.object.state (map (λ b. (goal.Client-dyn g (b.vtable, b.value)).tally b.value) l.clients.items);
  narrows : Narrows
      (meanings (λ b. (goal.Client-dyn g (b.vtable, b.value)).tally b.value) (λ b. (goal.Client-dyn g (b.vtable, b.value)).MayPut b.value) (λ b. (goal.Client-dyn g (b.vtable, b.value)).MayFail b.value) l.fn.clients.items)
      (meanings (λ b. (goal.Client-dyn g (b.vtable, b.value)).tally b.value) (λ b. (goal.Client-dyn g (b.vtable, b.value)).MayPut b.value) (λ b. (goal.Client-dyn g (b.vtable, b.value)).MayFail b.value) l.clients.items);
}
