use Rattle.pm_lattice.proofs.lists.empty_levels.Given as goal
use Rattle.pm_types.specs.Lists.{lists_of}
use Rattle.std.proofs.Common.{[], length, ◌≡◌}
use Rattle.std.specs.List.{All}

abbrev pub invariant-loop-rank : goal.invariant-loop-rank
invariant-loop-rank l = record {
  len : length l.levels.items ≡ l._rank;
  empty : All (λ level. lists_of level ≡ []) l.levels.items;
}
