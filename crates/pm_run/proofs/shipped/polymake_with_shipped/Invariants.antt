-- The clients of the first works are there, none of which was started.
use Rattle.std.proofs.Common.{map, take, ℕ, ◌≡◌}
use Rattle.pm_props.specs.declared.kind.Kind.{Kind}
use Rattle.pm_run.proofs.Boxing.{seen_by}
use Rattle.pm_run.proofs.shipped.polymake_with_shipped.Given as goal
use Rattle.pm_run.specs.Shipped.{shipped_client, unstarted}

abbrev pub invariant-loop-work : goal.invariant-loop-work
invariant-loop-work g l =
    map {B = Kind × ℕ} (seen_by (λ x. ((unstarted (shipped_client x.work)).0, x.starts))) l.clients.items ≡ map {B = Kind × ℕ} (λ w. unstarted (shipped_client w)) (take l.work-index l.work-items)
