use Rattle.pm_redund.proofs.enough.settle.Given as goal
use Rattle.pm_redund.specs.Keeping.{IsMore, IsPartly}

abbrev pub invariant-loop-step : goal.invariant-loop-step
invariant-loop-step l = record {
  partly : IsPartly l.rows l.lines l.enough;
  more : IsMore l.initial.enough.chosen.marks.items l.enough.chosen.marks.items;
}
