use Rattle.pm_graph.proofs.counts.meet_columns.Given as goal
use Rattle.pm_graph.specs.Counts.{IsMeetOfColumns}
use Rattle.std.proofs.Common.{length, take, ◌≡◌}

abbrev pub invariant-loop-j : goal.invariant-loop-j
invariant-loop-j l = record {
  meet_len : length l.meet ≡ length l.initial.meet;
  spare_len : length l.spare ≡ length l.initial.meet;
  meet : IsMeetOfColumns l.columns (take l.j-index l.face) l.meet;
}
