use Rattle.std.proofs.Common.{◌≡◌, drop, fold, map}
use Rattle.pm_object.specs.State.{names_of, read_at}
use Rattle.pm_object.specs.Views.{held_seen}
use Rattle.pm_props.specs.Sets.{only, union}
use Rattle.pm_object.proofs.object.names_of.Given as goal

-- with what the rest of the list adds to it, the set is that of the whole list
abbrev pub invariant-loop-h : goal.invariant-loop-h
invariant-loop-h l = fold (λ s p. union s (only p)) l.names (map (λ h. h.property) (read_at l.sub (map held_seen (drop l.h-index l.held)))) ≡ names_of (read_at l.sub (map held_seen l.held))
