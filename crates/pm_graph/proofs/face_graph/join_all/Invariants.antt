use Rattle.pm_graph.proofs.face_graph.join_all.Given as goal
use Rattle.pm_graph.specs.Edges.{IsPairAmong, Joins}
use Rattle.pm_graph.specs.Tables.{HaveLength}
use Rattle.std.proofs.Common.{length, map, take}

abbrev pub invariant-loop-face : goal.invariant-loop-face
invariant-loop-face l = record {
  lengths : HaveLength (length l.initial.rows) l.rows;
  joined : Joins (IsPairAmong (length l.initial.rows) (take l.face-index (map (λ face. face.items) l.faces))) l.initial.rows l.rows;
}
