use Rattle.std.proofs.Common.{◌≡◌, drop, fold, map}
use Rattle.std.specs.Prelude.{filter}
use Rattle.pm_filing.specs.Filing.{found_names, is_own_found}
use Rattle.pm_object.specs.Views.{held_seen}
use Rattle.pm_props.specs.Sets.{only, union}
use Rattle.pm_saving.proofs.save.found_names.Given as goal

-- with what the rest of the list adds to it, the set is that of the whole list
abbrev pub invariant-loop-h : goal.invariant-loop-h
invariant-loop-h l = fold (λ s p. union s (only p)) l.names (map (λ h. h.property) (filter is_own_found (map held_seen (drop l.h-index l.held)))) ≡ found_names (map held_seen l.held)
