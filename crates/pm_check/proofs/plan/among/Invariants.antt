-- With what the rest of the list adds to it, the set is that of the whole list.
use Rattle.std.proofs.Common.{◌≡◌, drop, fold, filter}
use Rattle.pm_props.specs.Properties.{is_in_use}
use Rattle.pm_props.specs.Sets.{only, union, set_of}
use Rattle.pm_check.proofs.plan.among.Given as goal

abbrev pub invariant-loop-p : goal.invariant-loop-p
invariant-loop-p l = fold (λ s p. union s (only p)) l.names (filter (is_in_use l.sub l.of) (drop l.p-index l.list)) ≡ set_of (filter (is_in_use l.sub l.of) l.list)
