use Rattle.pm_props.specs.Properties.{count}
use Rattle.std.proofs.Common.{◌-◌, ◌^◌}
use Rattle.pm_props.specs.Sets.{IsSubset}
use Rattle.pm_rules.specs.Useful.{AllNeeded}
use Rattle.pm_rules.proofs.useful.needed.Given as goal

abbrev pub invariant-grow : goal.invariant-grow
invariant-grow l = record {
  begun : IsSubset l.fn.asked l.needed;
  sound : AllNeeded l.rules l.names l.barred l.fn.asked l.needed;
}

abbrev pub decreases-grow : goal.decreases-grow
decreases-grow l = 2 ^ count - l.needed
