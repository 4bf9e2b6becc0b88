-- The graphs of right sets and faces are those of the rays and of the facets.
use Rattle.pm_geom.specs.Graphs.{IsEdge, IsRidge}
use Rattle.pm_graph.proofs.EdgeReadings.{graph_as}
use Rattle.pm_graph.proofs.RightFaces.{face_edges_are_edges}
use Rattle.pm_graph.proofs.RightGraphs.{index_edges_are_edges, set_edges_are_ridges, sets_are_facets}
use Rattle.pm_graph.specs.Edges.{IsFaceEdge, IsIndexEdge, IsSetEdge, whole_of}
use Rattle.pm_graph.specs.Laws.{RightSourcesGiveGraphs}
use Rattle.std.proofs.Common.{refl}
use Rattle.std.specs.Prelude.{length}

pub right_sources : RightSourcesGiveGraphs
right_sources n G L hg hl V F rays facets = record {
  by_sets = λ rows h g is. graph_as (length V) (length V) (IsIndexEdge (record { rows = rows; cols = length V })) (IsEdge n G L V) g g refl refl (λ i j l. index_edges_are_edges n G L hg hl V F rays facets rows h i j) is;
  by_faces = λ ranks h g is.
      let (all, same) = face_edges_are_edges n G L hg hl V rays ranks h in
      graph_as (length (whole_of ranks)) (length V) (IsFaceEdge ranks) (IsEdge n G L V) g g all refl (λ i j l. same i j) is;
  of_facets = λ rows h g is. graph_as (length rows) (length F) (IsSetEdge rows) (IsRidge n G L V F) g g (sets_are_facets F V rows h) refl (λ i k l. set_edges_are_ridges n G L hg hl V F rays facets rows h i k) is;
}
