-- The power so far, which is in the range.
use Rattle.pm_build.proofs.shapes.has_small_power.Given as goal
use Rattle.std.proofs.Common.{◌≡◌, ◌<◌}
use Rattle.std.specs.Prelude.{◌^◌}

abbrev pub invariant-loop : goal.invariant-loop
invariant-loop l = record {
  power : l.power ≡ l.n ^ l.counter;
  small : l.power < 2 ^ 127;
}
