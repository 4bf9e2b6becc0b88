-- With what the rest of the list adds to it, the set is that of the whole list.
use Rattle.std.proofs.Common.{◌≡◌, drop, fold, filter}
use Rattle.pm_props.specs.Sets.{has, only, union, set_of}
use Rattle.pm_printed.proofs.number.set_among.Given as goal

abbrev pub invariant-loop-p : goal.invariant-loop-p
invariant-loop-p l = fold (λ s p. union s (only p)) l.set (filter (has l.bits) (drop l.p-index l.list)) ≡ set_of (filter (has l.bits) l.list)
