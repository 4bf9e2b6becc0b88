-- One of the numbers, and none of those so far is greater.
use Rattle.pm_clients_fans.proofs.dims.greatest.Given as goal
use Rattle.std.proofs.Common.{take}
use Rattle.std.specs.List.{All, Contains}
use lib.Signed.{◌≤ℤ◌}

abbrev pub invariant-loop-number : goal.invariant-loop-number
invariant-loop-number l = record {
  listed : Contains l.numbers l.most;
  above : All (λ y. y ≤ℤ l.most) (take l.number-index l.numbers);
}
