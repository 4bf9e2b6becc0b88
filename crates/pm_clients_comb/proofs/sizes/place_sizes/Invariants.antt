-- The sizes of the places so far.
use Rattle.pm_clients_comb.proofs.sizes.place_sizes.Given as goal
use Rattle.pm_relations.specs.Sizes.{place_sizes}
use Rattle.std.proofs.Common.{◌≡◌}

abbrev pub invariant-loop-place : goal.invariant-loop-place
invariant-loop-place l = l.sizes.items ≡ place_sizes l.sets.rows l.place
