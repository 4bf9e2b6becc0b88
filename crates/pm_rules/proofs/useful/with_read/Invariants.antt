use Rattle.std.proofs.Common.{◌≤◌}
use Rattle.pm_props.specs.declared.set.PropSet.{PropSet}
use Rattle.pm_props.specs.Sets.{IsSubset}
use Rattle.pm_rules.specs.Useful.{AllNeeded}
use Rattle.pm_rules.proofs.NeededNames.{ReadIsIn}
use Rattle.pm_rules.proofs.useful.with_read.Given as goal

abbrev pub invariant-loop-i : goal.invariant-loop-i
invariant-loop-i l = record {
  number : l.set ≤ l.more;
  grows : IsSubset l.set l.more;
  sound : (asked : PropSet) → AllNeeded l.rules l.names l.barred asked l.set → AllNeeded l.rules l.names l.barred asked l.more;
  closed : ReadIsIn l.rules l.names l.barred l.set l.i l.more;
}
