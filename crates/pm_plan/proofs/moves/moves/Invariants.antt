use Rattle.std.proofs.Common.{All}
use Rattle.pm_plan.specs.Moves.{IsMove}
use Rattle.pm_plan.proofs.Collected.{FirstAreIn}
use Rattle.pm_plan.proofs.moves.moves.Given as goal

abbrev pub invariant-loop-i : goal.invariant-loop-i
invariant-loop-i l = record {
  each : All (IsMove l.rules l.names l.barred l.fn.asked) l.moves.items;
  whole : FirstAreIn l.rules l.names l.barred l.fn.asked l.i l.moves.items;
}
