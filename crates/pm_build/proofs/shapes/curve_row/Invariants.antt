-- The powers so far, all of them in the range.
use Rattle.pm_build.proofs.shapes.curve_row.Given as goal
use Rattle.pm_build.specs.Rows.{curve, headed}
use Rattle.pm_types.specs.Views.{ratios}
use Rattle.std.proofs.Common.{◌≡◌}
use Rattle.std.specs.Prelude.{◌^◌}

abbrev pub invariant-loop : goal.invariant-loop
invariant-loop l = record {
  row : l.row.items ≡ ratios (headed (curve l.t l.counter));
  power : l.power ≡ l.t ^ l.counter;
}
