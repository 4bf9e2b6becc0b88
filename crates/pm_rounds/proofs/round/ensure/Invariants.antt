use Rattle.pm_client.specs.Meanings.{Narrows, meanings}
use Rattle.pm_rounds.proofs.Measure.{left_to_do}
use Rattle.pm_rounds.specs.Events.{TraceLeads, at_rest, configuration, unsettled}
use Rattle.pm_object.specs.State.{is_held}
use Rattle.pm_props.specs.declared.property.PropId.TheVariants.{ConeAmbientDim}
use Rattle.std.proofs.Common.{true, ◌≡◌}
use Rattle.std.specs.Prelude.{map}
use Rattle.pm_rounds.proofs.round.ensure.Given as goal

abbrev pub invariant-loop-alloc : goal.invariant-loop-alloc
invariant-loop-alloc g l = record {
  reaches : TraceLeads (meanings (λ b. (goal.Client-dyn g (b.vtable, b.value)).tally b.value) (λ b. (goal.Client-dyn g (b.vtable, b.value)).MayPut b.value) (λ b. (goal.Client-dyn g (b.vtable, b.value)).MayFail b.value) l.fn.clients.items)
      l.book l.sub l.asked unsettled
      (configuration l.fn.object.state (map (λ b. (goal.Client-dyn g (b.vtable, b.value)).tally b.value) l.fn.clients.items)) at_rest
      (configuration l.object.state (map (λ b. (goal.Client-dyn g (b.vtable, b.value)).tally b.value) l.clients.items));
  narrows : Narrows (meanings (λ b. (goal.Client-dyn g (b.vtable, b.value)).tally b.value) (λ b. (goal.Client-dyn g (b.vtable, b.value)).MayPut b.value) (λ b. (goal.Client-dyn g (b.vtable, b.value)).MayFail b.value) l.fn.clients.items)
      (meanings (λ b. (goal.Client-dyn g (b.vtable, b.value)).tally b.value) (λ b. (goal.Client-dyn g (b.vtable, b.value)).MayPut b.value) (λ b. (goal.Client-dyn g (b.vtable, b.value)).MayFail b.value) l.clients.items);
  dimension : is_held ConeAmbientDim l.object.state.held ≡ true;
}

abbrev pub decreases-loop-alloc : goal.decreases-loop-alloc
decreases-loop-alloc g l = left_to_do l.book l.sub l.asked l.object.state
