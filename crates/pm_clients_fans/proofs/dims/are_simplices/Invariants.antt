-- As many numbers as sets, of which those that are left decide.
use Rattle.pm_clients_fans.proofs.dims.are_simplices.Given as goal
use Rattle.pm_relations.specs.Fans.{AreSimplices}
use Rattle.std.proofs.Common.{drop, length, map, ◌≡◌}
use Rattle.std.specs.Prelude.{◌↔◌}

abbrev pub invariant-loop-i : goal.invariant-loop-i
invariant-loop-i l = record {
  as_many : length l.sets ≡ length l.numbers;
  left : AreSimplices l.l (map (λ s. s.items) l.sets) l.numbers ↔ AreSimplices l.l (map (λ s. s.items) (drop l.i l.sets)) (drop l.i l.numbers);
}
