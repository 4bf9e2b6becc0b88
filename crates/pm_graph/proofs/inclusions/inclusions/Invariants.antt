use Rattle.pm_graph.proofs.inclusions.inclusions.Given as goal
use Rattle.pm_graph.specs.Counts.{place_count}
use Rattle.std.proofs.Common.{length, map, take, ◌*◌, ◌^◌, ◌≡◌, ◌≤◌}

abbrev pub invariant-loop-face : goal.invariant-loop-face
invariant-loop-face l = record {
  meet_len : length l.meet ≡ l.count;
  spare_len : length l.spare ≡ l.count;
  total : l.total ≡ place_count l.columns l.count (take l.face-index (map (λ face. face.items) l.lower));
  small : l.total ≤ l.face-index * 2 ^ 64;
}
