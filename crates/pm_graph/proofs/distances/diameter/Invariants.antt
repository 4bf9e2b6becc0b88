use Rattle.pm_graph.proofs.LevelWalks.{IsGreatestBelow}
use Rattle.pm_graph.proofs.distances.diameter.Given as goal
use Rattle.std.proofs.Common.{length, ◌≤◌}

abbrev pub invariant-loop-start : goal.invariant-loop-start
invariant-loop-start l = record {
  greatest : IsGreatestBelow l.g.rows l.start l.greatest;
  small : l.greatest ≤ length l.g.rows;
}
