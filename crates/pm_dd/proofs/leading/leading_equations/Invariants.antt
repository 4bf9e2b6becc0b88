use Rattle.pm_dd.proofs.leading.leading_equations.Given as goal
use Rattle.pm_dd.specs.Arrangement.{Leads}
use Rattle.std.proofs.Common.{length, ◌≡◌}

abbrev pub invariant-loop-i : goal.invariant-loop-i
invariant-loop-i l = record {
  count : length l.made.items ≡ l.i;
  leads : Leads l.rows l.marks l.made.items;
}
