-- Graphs that were found, and what was found from graphs, are sound answers.
use Rattle.pm_client.proofs.PlainValues.{sound_count, sound_counts, sound_plain, sound_whole}
use Rattle.pm_client.proofs.Puts.{IsPut}
use Rattle.pm_client.proofs.ReadValues.{read_right}
use Rattle.pm_client.specs.Sound.{IsSound}
use Rattle.pm_clients_graph.proofs.EdgeForms.{degrees_form, edges_with_nodes, few_in_whole, graph_form, index_sets, indices_are_nodes, places_are_nodes, sets_are_nodes}
use Rattle.pm_clients_graph.proofs.Found.{diameter_is_found, dual_diameter_is_found, dual_graph_is_found, edges_are_counted, graph_by_faces, graph_by_sets, neighbours_are_counted, ridges_are_counted}
use Rattle.pm_clients_graph.specs.Degrees.{degrees}
use Rattle.pm_geom.specs.Graphs.{IsGraph, edge_count}
use Rattle.pm_graph.specs.Edges.{IsFaceGraph, IsIndexEdge, IsSetEdge, whole_of}
use Rattle.pm_graph.specs.Levels.{HasGreatestDistance}
use Rattle.pm_object.specs.Reading.{DraftSeen, ViewSeen, fact_of}
use Rattle.pm_object_type.specs.declared.object_type.ObjectType.TheVariants.{Fan}
use Rattle.pm_props.specs.declared.property.PropId.TheVariants.{Diameter, DualDiameter, DualGraph, Graph, HasseDiagram, NEdges, NRidges, VertexDegrees, VerticesInFacets}
use Rattle.pm_types.proofs.Bits.{bits_from_fits}
use Rattle.pm_types.specs.Forms.{FormsIn, has_64_bits, is_edges_form}
use Rattle.pm_types.specs.Right.{Right, objective_of}
use Rattle.pm_types.specs.Values.{counts, edges, lattice, sets, whole}
use Rattle.std.proofs.Common.{SFits, arith, of_z, refl, subst, sym, to_z, true, w64, ◌∙◌}
use Rattle.std.proofs.lemmas.Bool.{and_from, eq-eqb}
use Rattle.std.proofs.lemmas.Int.{to_z-of_z}
use Rattle.std.specs.Prelude.{List, Some, length, nat_eq, ℕ, ◌&&◌, ◌≡◌, ◌≤◌, ◌^◌}
use lib.IntN.{pos, ℤ}

module _ (v : ViewSeen) (old new : DraftSeen) where
  -- ---- graphs of sets and of faces
  module _ (no_fan : ¬ (v.of ≡ Fan)) (g : List (List ℕ)) (m : ℕ) where
    -- the column count is the number of nodes
    nodes_of : (n : ℕ) → length g ≡ n → m ≡ n → m ≡ length g
    nodes_of n a b = b ∙ sym a

    form_with : is_edges_form g ≡ true → m ≡ length g → (is_edges_form g && nat_eq m (length g)) ≡ true
    form_with form nodes = and_from (is_edges_form g) (nat_eq m (length g)) form (eq-eqb m (length g) nodes)

    module _ (rows : List (List ℕ)) (n : ℕ) (read : fact_of VerticesInFacets v.facts ≡ Some (sets rows n)) (forms : FormsIn v.of v.cols VerticesInFacets (sets rows n)) where
      pub graph_of_sets_sound : IsGraph n (IsIndexEdge (record { rows = rows; cols = n })) g → m ≡ n → IsPut v Graph (edges g m) old new → IsSound v new
      graph_of_sets_sound graph cols_are put =
          let nodes = nodes_of n graph.nodes cols_are in
          sound_plain v Graph (edges g m) old new refl refl (form_with (graph_form n (IsIndexEdge (record { rows = rows; cols = n })) g graph (index_sets rows n forms.formed).1 (indices_are_nodes (record { rows = rows; cols = n }))) nodes) put (λ t o of cols right d.
          let (s, value) = read_right VerticesInFacets v.facts (sets rows n) t o read right in
          subst (λ k. Right Graph (edges g k) t o d) (sym nodes) (graph_by_sets t o right.thing right.orders (λ e. no_fan (sym of ∙ e)) rows n (objective_of t s) d value g graph))

      pub dual_graph_sound : IsGraph (length rows) (IsSetEdge rows) g → m ≡ length rows → IsPut v DualGraph (edges g m) old new → IsSound v new
      dual_graph_sound graph cols_are put =
          let nodes = nodes_of (length rows) graph.nodes cols_are in
          sound_plain v DualGraph (edges g m) old new refl refl (form_with (graph_form (length rows) (IsSetEdge rows) g graph (index_sets rows n forms.formed).0 (sets_are_nodes rows)) nodes) put (λ t o of cols right d.
          let (s, value) = read_right VerticesInFacets v.facts (sets rows n) t o read right in
          subst (λ k. Right DualGraph (edges g k) t o d) (sym nodes) (dual_graph_is_found t o right.thing right.orders (λ e. no_fan (sym of ∙ e)) rows n (objective_of t s) d value g graph))

    pub graph_of_faces_sound : (ranks : List (List (List ℕ))) → fact_of HasseDiagram v.facts ≡ Some (lattice ranks) → FormsIn v.of v.cols HasseDiagram (lattice ranks) → IsFaceGraph ranks g → m ≡ length (whole_of ranks) → IsPut v Graph (edges g m) old new → IsSound v new
    graph_of_faces_sound ranks read forms graph cols_are put =
        let nodes = nodes_of (length (whole_of ranks)) graph.nodes cols_are in
        sound_plain v Graph (edges g m) old new refl refl (form_with (graph_form (length (whole_of ranks)) _ g graph (few_in_whole ranks forms.formed) (places_are_nodes ranks)) nodes) put (λ t o of cols right d.
        let (s, value) = read_right HasseDiagram v.facts (lattice ranks) t o read right in
        subst (λ k. Right Graph (edges g k) t o d) (sym nodes) (graph_by_faces t o right.thing right.orders (λ e. no_fan (sym of ∙ e)) ranks (objective_of t s) d value g graph))

  -- ---- what GRAPH shows
  module _ (g : List (List ℕ)) (m : ℕ) (read : fact_of Graph v.facts ≡ Some (edges g m)) (forms : FormsIn v.of v.cols Graph (edges g m)) where
    pub degrees_sound : IsPut v VertexDegrees (counts (degrees g)) old new → IsSound v new
    degrees_sound put = sound_counts v VertexDegrees (degrees g) old new refl (degrees_form g (edges_with_nodes g m forms.formed)) put (λ t o of cols right d.
        let (s, value) = read_right Graph v.facts (edges g m) t o read right in
        neighbours_are_counted t o g m (objective_of t s) d value)

    pub edges_sound : (k : ℕ) → k ≡ edge_count g → k ≤ 2 ^ 22 → IsPut v NEdges (whole (to_z w64 k)) old new → IsSound v new
    edges_sound k e few put = sound_count v NEdges k old new refl (omega arith) put (λ t o of cols right d.
        let (s, value) = read_right Graph v.facts (edges g m) t o read right in
        subst (λ m. Right NEdges (whole (pos m)) t o d) (sym e) (edges_are_counted t o right.orders g m (objective_of t s) d value))

    pub diameter_sound : ¬ (v.of ≡ Fan) → (k : ℤ) → SFits w64 k → HasGreatestDistance g k → IsPut v Diameter (whole (to_z w64 (of_z w64 k))) old new → IsSound v new
    diameter_sound no_fan k fits far put =
        let (d, is, greatest) = far in
        sound_whole v Diameter (to_z w64 (of_z w64 k)) (pos d) old new refl (to_z-of_z w64 k fits ∙ is) (subst (λ z. has_64_bits z ≡ true) is (bits_from_fits k fits)) put (λ t o of cols right e.
        let (s, value) = read_right Graph v.facts (edges g m) t o read right in
        diameter_is_found t o right.thing right.orders (λ f. no_fan (sym of ∙ f)) g m (objective_of t s) e value d greatest)

  -- ---- what DUAL_GRAPH shows
  module _ (g : List (List ℕ)) (m : ℕ) (read : fact_of DualGraph v.facts ≡ Some (edges g m)) where
    pub ridges_sound : (k : ℕ) → k ≡ edge_count g → k ≤ 2 ^ 22 → IsPut v NRidges (whole (to_z w64 k)) old new → IsSound v new
    ridges_sound k e few put = sound_count v NRidges k old new refl (omega arith) put (λ t o of cols right d.
        let (s, value) = read_right DualGraph v.facts (edges g m) t o read right in
        subst (λ m. Right NRidges (whole (pos m)) t o d) (sym e) (ridges_are_counted t o right.orders g m (objective_of t s) d value))

    pub dual_diameter_sound : ¬ (v.of ≡ Fan) → (k : ℤ) → SFits w64 k → HasGreatestDistance g k → IsPut v DualDiameter (whole (to_z w64 (of_z w64 k))) old new → IsSound v new
    dual_diameter_sound no_fan k fits far put =
        let (d, is, greatest) = far in
        sound_whole v DualDiameter (to_z w64 (of_z w64 k)) (pos d) old new refl (to_z-of_z w64 k fits ∙ is) (subst (λ z. has_64_bits z ≡ true) is (bits_from_fits k fits)) put (λ t o of cols right e.
        let (s, value) = read_right DualGraph v.facts (edges g m) t o read right in
        dual_diameter_is_found t o right.thing right.orders (λ f. no_fan (sym of ∙ f)) g m (objective_of t s) e value d greatest)
