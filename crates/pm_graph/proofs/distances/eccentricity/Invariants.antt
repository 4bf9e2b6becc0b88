use Rattle.pm_graph.proofs.LevelWalks.{IsLevel}
use Rattle.pm_graph.proofs.distances.eccentricity.Given as goal
use Rattle.pm_graph.specs.Levels.{unseen_count}
use Rattle.std.proofs.Common.{[], length, map, ◌+◌, ◌<◌, ◌≡◌}

abbrev pub invariant-loop-next : goal.invariant-loop-next
invariant-loop-next l = record {
  level : IsLevel (map (λ row. row.items) l.rows) l.start l.far l.seen.items l.front.items;
  left : unseen_count l.seen.items ≡ l.left;
  small : l.far + l.left < length l.rows;
  empty : l.next.items ≡ [];
}

abbrev pub decreases-loop-next : goal.decreases-loop-next
decreases-loop-next l = l.left
