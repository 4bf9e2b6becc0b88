-- One value for each row of the table of properties.
use Rattle.pm_geom.proofs.Facets.{vanishes_line}
use Rattle.pm_geom.specs.Cells.{IsCell, squares}
use Rattle.pm_geom.specs.Cones.{IsValid, SameModulo, Vanishes}
use Rattle.pm_geom.specs.Graphs.{IsDiameter, IsEdge, IsRidge, edge_count}
use Rattle.pm_geom.specs.Things.{Orders}
use Rattle.pm_laws_things.proofs.Graphs.{graphs_of_all_orders}
use Rattle.pm_laws_things.specs.Orders.{GraphsAreOfAllOrders}
use Rattle.pm_laws_values.proofs.ConeOrders.{cone_orders}
use Rattle.pm_laws_values.proofs.FaceNumbers.{f2_same, f_same}
use Rattle.pm_laws_values.proofs.Graphs.{cone_dims_one, cone_rays_one, diagram_one, diameter_one, fan_dim_one, far_one, graph_one, incidence_one}
use Rattle.pm_laws_values.proofs.Programs.{face_one, greatest_one, in_lowest_terms, opposites_one}
use Rattle.pm_laws_values.proofs.Rows.{Alike, bases_one, cols_one, echelon_one, ray_row_one, rows_one}
use Rattle.pm_laws_values.proofs.Shapes.{diagrams, families, graphs, lists, matrices, numbers_one, truths, wholes}
use Rattle.pm_laws_values.proofs.Sorted.{families_same}
use Rattle.pm_laws_values.specs.OneValue.{IsAnswer, OneValue, is_asked, is_determined}
use Rattle.pm_object_type.specs.declared.object_type.ObjectType.TheVariants.{Cone, Fan, Polytope}
use Rattle.pm_object_type.specs.declared.object_type.ObjectType.{ObjectType}
use Rattle.pm_props.specs.Kinds.{IsFresh}
use Rattle.pm_props.specs.Properties.{facets_tag, rays_tag}
use Rattle.pm_props.specs.declared.kind.Kind.{Kind}
use Rattle.pm_props.specs.declared.property.PropId.{PropId}
use Rattle.pm_props.specs.declared.property.PropId.TheVariants.{AffineHull, Bounded, Centered, CombinatorialDim, ConeAmbientDim, ConeDim, DelaunayCells, Diameter, DualDiameter, DualGraph, Equations, F2Vector, FVector, FacetSizes, Facets, FanDim, FarFace, Feasible, FullDim, Graph, HVector, HasseDiagram, Inequalities, InputLineality, LinealityDim, LinealitySpace, LinearObjective, MaximalCones, MaximalConesDims, MaximalDual, MaximalFace, MaximalValue, MinimalDual, MinimalFace, MinimalValue, NEdges, NFacets, NMaximalCones, NRidges, NVertices, PlacingTriangulation, Pointed, Points, Pure, RegularCells, Simple, Simplicial, SiteHeights, Sites, VertexDegrees, VertexSizes, Vertices, VerticesInFacets}
use Rattle.pm_relations.proofs.Dimensions.{dimensions_are_determined}
use Rattle.pm_relations.proofs.Spans.{thing_cols}
use Rattle.pm_relations.proofs.Standing.{stands_ratios}
use Rattle.pm_types.specs.Canonical.{IsRayRow, Vanishing}
use Rattle.pm_types.specs.Forms.{are_indices, is_matrix_form, is_row_of_entries, is_sets_form}
use Rattle.pm_types.specs.Programs.{opposite_extended, opposite_objective}
use Rattle.pm_types.specs.Right.{InLines, InLinesOf, InSet, InSomeOrders, IsFVector, IsFacetGraph, IsHVector, IsRayGraph, IsSimplicialTruth, Right, SameFacet, SameRay, SameRayOf, h_vector_of}
use Rattle.pm_types.specs.Things.{AreOrders, IsThing, Thing}
use Rattle.pm_types.specs.Values.{PropertyValue, edges, matrix, sets, whole}
use Rattle.pm_types.specs.Views.{over_one, ratios}
use Rattle.pm_vector.proofs.ConeLaws.{in_cone_set}
use Rattle.pm_vector.proofs.RowLaws.{entry-plus, entry-times}
use Rattle.pm_vector.specs.Cones.{InSpan}
use Rattle.pm_vector.specs.Numbers.{Ratio}
use Rattle.pm_vector.specs.Rows.{HasCols, Row, Stands}
use Rattle.pm_limits.specs.Limits.{most_rows}
use Rattle.std.proofs.Common.{ap, ap₂, false, refl, subst, sym, true, true≢false, ◌∙◌}
use Rattle.std.proofs.lemmas.Bool.{and_parts, eqb-true}
use Rattle.std.specs.List.{list_all}
use Rattle.std.specs.Prelude.{Bool, IsTrue, List, [], length, map, nat_eq, nat_le, ℕ, ◌&&◌, ◌∷◌, ◌↔◌, ◌≡◌}
use lib.IntN.{pos, ℤ}

same_truth : (P : Type 0) (a b : Bool) → IsTrue a ↔ P → IsTrue b ↔ P → a ≡ b
same_truth P true true h k = refl
same_truth P true false h k = sym (k.1 (h.0 refl))
same_truth P false true h k = h.1 (k.0 refl)
same_truth P false false h k = refl

simplicial_one : (of : ObjectType) (t : Thing) (o : Orders) → AreOrders t o → (a b : Bool) → IsSimplicialTruth of t a → IsSimplicialTruth of t b → a ≡ b
simplicial_one Fan t o are a b h k = same_truth _ a b h k
simplicial_one Polytope t o are a b h k = same_truth _ a b (h o are) (k o are)
simplicial_one Cone t o are a b h k = same_truth _ a b (h o are) (k o are)

-- ---- sets
sets_of : (rows : List (List ℕ)) (n : ℕ) → is_sets_form rows n ≡ true → list_all (are_indices n 0) rows ≡ true
sets_of rows n h = (and_parts (nat_le (length rows) most_rows && nat_le n most_rows) (list_all (are_indices n 0) rows) h).1

-- ---- rows
ray_alike_of : (of : ObjectType) (n : ℕ) (G L R : List Row) → ((w : Row) → length w ≡ n → InLinesOf of G L w → InSpan R w) → (v x : Row) → SameRayOf of n G L v x → Alike n R v x
ray_alike_of Polytope n G L R spans v x s = record { p = s.p; k = s.k; w = s.w; p_positive = s.p_positive; k_positive = s.k_positive; line = spans s.w s.cols s.line; same = λ i. simp (entry-times, entry-plus) at (s.same.at i) }
ray_alike_of Cone n G L R spans v x s = record { p = s.p; k = s.k; w = s.w; p_positive = s.p_positive; k_positive = s.k_positive; line = spans s.w s.cols s.line; same = λ i. simp (entry-times, entry-plus) at (s.same.at i) }
ray_alike_of Fan n G L R spans v x s = record { p = s.p; k = s.k; w = s.w; p_positive = s.p_positive; k_positive = s.k_positive; line = spans s.w s.cols s.line.inside; same = λ i. simp (entry-times, entry-plus) at (s.same.at i) }

facet_alike_of : (n : ℕ) (G L : List Row) → HasCols n G → HasCols n L → (R : List Row) → ((w : Row) → length w ≡ n → Vanishes n G L w → InSpan R w) → (v x : Row) → SameModulo n (IsValid n G L) v x → Alike n R v x
facet_alike_of n G L hg hl R spans v x s = record { p = s.p; k = s.k; w = s.w; p_positive = s.p_positive; k_positive = s.k_positive; line = spans s.w s.cols ((vanishes_line n G L hg hl s.w s.cols).1 s.line); same = λ i. simp (entry-times, entry-plus) at (s.same.at i) }

abbrev pub IsFacetLine : List Ratio → Row → Type 0
IsFacetLine r x = r ≡ ratios x

pub facet_stands : (r : List Ratio) (x : Row) → IsFacetLine r x → Stands r x
facet_stands r x e = subst (λ z. Stands z x) (sym e) (stands_ratios x)

module _ (t : Thing) (h : IsThing t) where
  pub ray_alike : (R : List Row) → ((w : Row) → length w ≡ t.cols → InLines t w → InSpan R w) → (v x : Row) → SameRay t v x → Alike t.cols R v x
  ray_alike R spans v x s = ray_alike_of t.of t.cols t.generators t.lines R spans v x s

  pub facet_alike : (R : List Row) → ((w : Row) → length w ≡ t.cols → Vanishing t w → InSpan R w) → (v x : Row) → SameFacet t v x → Alike t.cols R v x
  facet_alike R spans v x s = let (hg, hl) = thing_cols t h in facet_alike_of t.cols t.generators t.lines hg hl R spans v x s

  module _ (o : Orders) (are : AreOrders t o) (c : List Ratio) (one other : Kind) where
    vertices : (k l : List (List Ratio)) (n m : ℕ) → IsAnswer one Vertices (matrix n k) t o c → IsAnswer other Vertices (matrix m l) t o c → matrix n k ≡ matrix m l
    vertices k l n m a b =
        let x = a.canonical in
        let y = b.canonical in
        let q = bases_one t.cols (InLines t) y.lines x.lines y.pivots x.pivots y.echelon x.echelon in
        cols_one n m k l a.formed.formed b.formed.formed a.stated b.stated
        (rows_one t (SameRay t) (InLines t) (IsRayRow t) (λ r z i. i.stands) (λ r s z. ray_row_one t r s z) x.lines x.pivots x.echelon.echelon (IsFresh rays_tag one) (IsFresh rays_tag other) (ray_alike x.lines x.echelon.basis.spans) o.rays k l a.right b.right x y refl q.1 a.formed.entries b.formed.entries)

    facets : (k l : List (List Ratio)) (n m : ℕ) → IsAnswer one Facets (matrix n k) t o c → IsAnswer other Facets (matrix m l) t o c → matrix n k ≡ matrix m l
    facets k l n m a b =
        let x = a.canonical in
        let y = b.canonical in
        let q = bases_one t.cols (Vanishing t) y.lines x.lines y.pivots x.pivots y.echelon x.echelon in
        cols_one n m k l a.formed.formed b.formed.formed a.stated b.stated
        (rows_one t (SameFacet t) (Vanishing t) IsFacetLine facet_stands (λ r s z e f u w. e ∙ sym f) x.lines x.pivots x.echelon.echelon (IsFresh facets_tag one) (IsFresh facets_tag other) (facet_alike x.lines x.echelon.basis.spans) o.facets k l a.right b.right x y refl q.1 a.formed.entries b.formed.entries)

    lineality : (k l : List (List Ratio)) (n m : ℕ) → IsAnswer one LinealitySpace (matrix n k) t o c → IsAnswer other LinealitySpace (matrix m l) t o c → matrix n k ≡ matrix m l
    lineality k l n m a b = cols_one n m k l a.formed.formed b.formed.formed a.stated b.stated (echelon_one t.cols (InLines t) k l a.canonical b.canonical)

    hull : (k l : List (List Ratio)) (n m : ℕ) → IsAnswer one AffineHull (matrix n k) t o c → IsAnswer other AffineHull (matrix m l) t o c → matrix n k ≡ matrix m l
    hull k l n m a b = cols_one n m k l a.formed.formed b.formed.formed a.stated b.stated (echelon_one t.cols (Vanishing t) k l a.canonical b.canonical)

    objective : (k l : List (List Ratio)) (n m : ℕ) → IsAnswer one LinearObjective (matrix n k) t o c → IsAnswer other LinearObjective (matrix m l) t o c → matrix n k ≡ matrix m l
    objective k l n m a b = cols_one n m k l (and_parts (nat_eq (length k) 1) (is_matrix_form n k) a.formed.formed).1 (and_parts (nat_eq (length l) 1) (is_matrix_form m l) b.formed.formed).1 a.stated b.stated (a.right ∙ sym b.right)

    heights : (k l : List (List Ratio)) (n m : ℕ) → IsAnswer one SiteHeights (matrix n k) t o c → IsAnswer other SiteHeights (matrix m l) t o c → matrix n k ≡ matrix m l
    heights k l n m a b = ap₂ matrix (sym (cols n k a.right a.formed.formed) ∙ cols m l b.right b.formed.formed) (a.right ∙ sym b.right)
      where
        first : (n : ℕ) → list_all (is_row_of_entries n) (t.heights ∷ []) ≡ true → length t.heights ≡ n
        first n g = eqb-true (length t.heights) n (and_parts (is_row_of_entries n t.heights) true g).0

        cols : (n : ℕ) (k : List (List Ratio)) → k ≡ t.heights ∷ [] → (nat_eq (length k) 1 && nat_le n most_rows && list_all (is_row_of_entries n) k) ≡ true → length t.heights ≡ n
        cols n k e f = first n (subst (λ z. list_all (is_row_of_entries n) z ≡ true) e (and_parts (nat_eq (length k) 1 && nat_le n most_rows) (list_all (is_row_of_entries n) k) f).1)

    -- ---- graphs
    module _ (other_type : ¬ (t.of ≡ Fan)) where
      all : GraphsAreOfAllOrders t
      all = graphs_of_all_orders t h other_type

      dual_graph : (k l : List (List ℕ)) (n m : ℕ) → n ≡ length o.facets → m ≡ length o.facets → InSomeOrders t (λ p. IsFacetGraph t p.rays o.facets k) → InSomeOrders t (λ p. IsFacetGraph t p.rays o.facets l) → edges k n ≡ edges l m
      dual_graph k l n m e f x y = ap₂ edges (graph_one (length o.facets) (IsRidge t.cols t.generators t.lines o.rays o.facets) k l ((all.ridges o are k).0 x o are) ((all.ridges o are l).0 y o are)) (e ∙ sym f)

      abbrev RayDiameter : ℤ → Type 0
      RayDiameter k = InSomeOrders t (λ p. (m : ℕ) × (k ≡ pos m) × IsDiameter (length p.rays) (IsEdge t.cols t.generators t.lines p.rays) m)

      ray_diameter : (k l : ℤ) → RayDiameter k → RayDiameter l → k ≡ l
      ray_diameter k l x y =
          let (m, e, d) = x.holds in
          let (i, f, g) = y.holds in
          e ∙ ap pos (diameter_one (length o.rays) (IsEdge t.cols t.generators t.lines o.rays) m i ((all.ray_diameter m).0 (record { orders = x.orders; are_orders = x.are_orders; holds = d }) o are) ((all.ray_diameter i).0 (record { orders = y.orders; are_orders = y.are_orders; holds = g }) o are)) ∙ sym f

      abbrev FacetDiameter : ℤ → Type 0
      FacetDiameter k = InSomeOrders t (λ p. (m : ℕ) × (k ≡ pos m) × IsDiameter (length p.facets) (IsRidge t.cols t.generators t.lines p.rays p.facets) m)

      facet_diameter : (k l : ℤ) → FacetDiameter k → FacetDiameter l → k ≡ l
      facet_diameter k l x y =
          let (m, e, d) = x.holds in
          let (i, f, g) = y.holds in
          e ∙ ap pos (diameter_one (length o.facets) (IsRidge t.cols t.generators t.lines o.rays o.facets) m i ((all.facet_diameter m).0 (record { orders = x.orders; are_orders = x.are_orders; holds = d }) o are) ((all.facet_diameter i).0 (record { orders = y.orders; are_orders = y.are_orders; holds = g }) o are)) ∙ sym f

      abbrev EdgeNumber : ℤ → Type 0
      EdgeNumber k = InSomeOrders t (λ p. (rows : List (List ℕ)) × IsRayGraph t p.rays rows × (k ≡ pos (edge_count rows)))

      edge_number : (k l : ℤ) → EdgeNumber k → EdgeNumber l → k ≡ l
      edge_number k l x y =
          let (rows, a, e) = x.holds in
          let (others, b, f) = y.holds in
          let (r, ar, er) = (all.edge_number (edge_count rows)).0 (record { orders = x.orders; are_orders = x.are_orders; holds = (rows, a, refl) }) o are in
          let (s, bs, es) = (all.edge_number (edge_count others)).0 (record { orders = y.orders; are_orders = y.are_orders; holds = (others, b, refl) }) o are in
          e ∙ ap pos (er ∙ ap edge_count (graph_one (length o.rays) (IsEdge t.cols t.generators t.lines o.rays) r s ar bs) ∙ sym es) ∙ sym f

      abbrev RidgeNumber : ℤ → Type 0
      RidgeNumber k = InSomeOrders t (λ p. (rows : List (List ℕ)) × IsFacetGraph t p.rays p.facets rows × (k ≡ pos (edge_count rows)))

      ridge_number : (k l : ℤ) → RidgeNumber k → RidgeNumber l → k ≡ l
      ridge_number k l x y =
          let (rows, a, e) = x.holds in
          let (others, b, f) = y.holds in
          let (r, ar, er) = (all.ridge_number (edge_count rows)).0 (record { orders = x.orders; are_orders = x.are_orders; holds = (rows, a, refl) }) o are in
          let (s, bs, es) = (all.ridge_number (edge_count others)).0 (record { orders = y.orders; are_orders = y.are_orders; holds = (others, b, refl) }) o are in
          e ∙ ap pos (er ∙ ap edge_count (graph_one (length o.facets) (IsRidge t.cols t.generators t.lines o.rays o.facets) r s ar bs) ∙ sym es) ∙ sym f

    -- ---- numbers of faces
    module _ (other_type : ¬ (t.of ≡ Fan)) where
      f_vector : (k l : List ℤ) → IsFVector t k → IsFVector t l → k ≡ l
      f_vector k l x y =
          x.number ∙ ap (map pos) (f_same t.cols t.generators t.lines x.orders.rays y.orders.rays (cone_orders t.of other_type t.cols t.generators t.lines t.cones x.orders x.are_orders).rays (cone_orders t.of other_type t.cols t.generators t.lines t.cones y.orders y.are_orders).rays x.ranks y.ranks x.faces y.faces)
          ∙ sym y.number

      f2_vector : (k l : List (List Ratio)) (n m : ℕ) → Right F2Vector (matrix n k) t o c → Right F2Vector (matrix m l) t o c → matrix n k ≡ matrix m l
      f2_vector k l n m (e, x) (f, y) =
          let q : k ≡ l = x.number ∙ ap (map (map (λ i. over_one (pos i)))) (f2_same t.cols t.generators t.lines x.orders.rays y.orders.rays (cone_orders t.of other_type t.cols t.generators t.lines t.cones x.orders x.are_orders).rays (cone_orders t.of other_type t.cols t.generators t.lines t.cones y.orders y.are_orders).rays x.ranks y.ranks x.faces y.faces) ∙ sym y.number in
          ap₂ matrix (e ∙ ap length q ∙ sym f) q

      h_vector : (k l : List ℤ) → IsHVector t k → IsHVector t l → k ≡ l
      h_vector k l x y = x.numbers ∙ ap₂ h_vector_of (f_vector x.f y.f x.faces y.faces) (ap number_in ((dimensions_are_determined t).2 (whole x.d) (whole y.d) o o c c x.dim y.dim)) ∙ sym y.numbers
        where
          number_in : PropertyValue → ℤ
          number_in (whole k) = k
          number_in v = pos 0

    one_graph : (k l : List (List ℕ)) → IsRayGraph t o.rays k → IsRayGraph t o.rays l → k ≡ l
    one_graph k l x y = graph_one (length o.rays) (IsEdge t.cols t.generators t.lines o.rays) k l x y

    -- ---- the table
    value : (p : PropId) → IsTrue (is_determined p) → IsTrue (is_asked t.of p) → (v w : PropertyValue) → IsAnswer one p v t o c → IsAnswer other p w t o c → v ≡ w
    value ConeAmbientDim d u v w a b = wholes t o c one other ConeAmbientDim v w a b refl (λ k l x y. x ∙ sym y)
    value Points d u v w a b = absurd (true≢false (sym d))
    value InputLineality d u v w a b = absurd (true≢false (sym d))
    value Inequalities d u v w a b = absurd (true≢false (sym d))
    value Equations d u v w a b = absurd (true≢false (sym d))
    value Vertices d u v w a b = matrices t o c one other Vertices v w a b refl vertices
    value LinealitySpace d u v w a b = matrices t o c one other LinealitySpace v w a b refl lineality
    value Facets d u v w a b = matrices t o c one other Facets v w a b refl facets
    value AffineHull d u v w a b = matrices t o c one other AffineHull v w a b refl hull
    value VerticesInFacets d u v w a b = families t o c one other VerticesInFacets v w a b refl (λ k l n m x y.
        let e : n ≡ m = x.right.0 ∙ sym y.right.0 in
        ap₂ sets (incidence_one m o.facets o.rays k l (subst (λ i. list_all (are_indices i 0) k ≡ true) e (sets_of k n x.formed.formed)) (sets_of l m y.formed.formed) x.right.1 y.right.1) e)
    value ConeDim d u v w a b = (dimensions_are_determined t).0 v w o o c c a.right b.right
    value LinealityDim d u v w a b = (dimensions_are_determined t).1 v w o o c c a.right b.right
    value CombinatorialDim d u v w a b = (dimensions_are_determined t).2 v w o o c c a.right b.right
    value NVertices d u v w a b = wholes t o c one other NVertices v w a b refl (λ k l x y. x o are ∙ sym (y o are))
    value NFacets d u v w a b = wholes t o c one other NFacets v w a b refl (λ k l x y. x o are ∙ sym (y o are))
    value Feasible d u v w a b = truths t o c one other Feasible v w a b refl (λ k l x y. same_truth _ k l x y)
    value Bounded d u v w a b = truths t o c one other Bounded v w a b refl (λ k l x y. same_truth _ k l x y)
    value Pointed d u v w a b = truths t o c one other Pointed v w a b refl (λ k l x y. same_truth _ k l x y)
    value FullDim d u v w a b = (dimensions_are_determined t).3 v w o o c c a.right b.right
    value Centered d u v w a b = truths t o c one other Centered v w a b refl (λ k l x y. same_truth _ k l x y)
    value Simple d u v w a b = truths t o c one other Simple v w a b refl (λ k l x y. same_truth _ k l (x o are) (y o are))
    value Simplicial d u v w a b = truths t o c one other Simplicial v w a b refl (λ k l x y. simplicial_one t.of t o are k l x y)
    value VertexSizes d u v w a b = lists t o c one other VertexSizes v w a b refl (λ k l x y. x o are ∙ sym (y o are))
    value FacetSizes d u v w a b = lists t o c one other FacetSizes v w a b refl (λ k l x y. x o are ∙ sym (y o are))
    value FarFace d u v w a b = lists t o c one other FarFace v w a b refl (λ k l x y. far_one o.rays k l x y)
    value HasseDiagram d u v w a b = diagrams t o c one other HasseDiagram v w a b refl (λ k l x y. diagram_one t.cols t.generators t.lines o.rays k l x y)
    value FVector d u v w a b = lists t o c one other FVector v w a b refl (f_vector (λ e. true≢false (sym (subst (λ of. IsTrue (is_asked of FVector)) e u))))
    value F2Vector d u v w a b = matrices t o c one other F2Vector v w a b refl (λ k l n m x y. f2_vector (λ e. true≢false (sym (subst (λ of. IsTrue (is_asked of F2Vector)) e u))) k l n m x.right y.right)
    value HVector d u v w a b = lists t o c one other HVector v w a b refl (h_vector (λ e. true≢false (sym (subst (λ of. IsTrue (is_asked of HVector)) e u))))
    value Graph d u v w a b = graphs t o c one other Graph v w a b refl (λ k l n m x y. ap₂ edges (one_graph k l x.1 y.1) (x.0 ∙ sym y.0))
    value DualGraph d u v w a b = graphs t o c one other DualGraph v w a b refl (λ k l n m x y. dual_graph (λ e. true≢false (sym (subst (λ of. IsTrue (is_asked of DualGraph)) e u))) k l n m x.0 y.0 x.1 y.1)
    value Diameter d u v w a b = wholes t o c one other Diameter v w a b refl (ray_diameter (λ e. true≢false (sym (subst (λ of. IsTrue (is_asked of Diameter)) e u))))
    value DualDiameter d u v w a b = wholes t o c one other DualDiameter v w a b refl (facet_diameter (λ e. true≢false (sym (subst (λ of. IsTrue (is_asked of DualDiameter)) e u))))
    value NEdges d u v w a b = wholes t o c one other NEdges v w a b refl (edge_number (λ e. true≢false (sym (subst (λ of. IsTrue (is_asked of NEdges)) e u))))
    value NRidges d u v w a b = wholes t o c one other NRidges v w a b refl (ridge_number (λ e. true≢false (sym (subst (λ of. IsTrue (is_asked of NRidges)) e u))))
    value VertexDegrees d u v w a b = lists t o c one other VertexDegrees v w a b refl (λ k l x y. x.2 ∙ ap (map (λ row. pos (length row))) (one_graph x.0 y.0 x.1 y.1) ∙ sym y.2)
    value MaximalCones d u v w a b = families t o c one other MaximalCones v w a b refl (λ k l n m x y.
        let e : n ≡ m = x.right.0 ∙ sym y.right.0 in
        ap₂ sets (cone_rays_one m t o.rays o.cones k l (subst (λ i. list_all (are_indices i 0) k ≡ true) e (sets_of k n x.formed.formed)) (sets_of l m y.formed.formed) x.right.1 y.right.1) e)
    value NMaximalCones d u v w a b = wholes t o c one other NMaximalCones v w a b refl (λ k l x y. x ∙ sym y)
    value MaximalConesDims d u v w a b = lists t o c one other MaximalConesDims v w a b refl (λ k l x y. cone_dims_one t o.cones k l x y)
    value FanDim d u v w a b = wholes t o c one other FanDim v w a b refl (λ k l x y. fan_dim_one t k l x y)
    value Pure d u v w a b = truths t o c one other Pure v w a b refl (λ k l x y. same_truth _ k l x y)
    value LinearObjective d u v w a b = matrices t o c one other LinearObjective v w a b refl objective
    value MaximalValue d u v w a b = numbers_one t o c one other MaximalValue v w a b refl (λ k l x y. in_lowest_terms k l x.formed.entries y.formed.entries (greatest_one (InSet t) (in_cone_set t.generators t.lines) c k l x.right y.right))
    value MinimalValue d u v w a b = numbers_one t o c one other MinimalValue v w a b refl (λ k l x y. in_lowest_terms k l x.formed.entries y.formed.entries (opposites_one k l (greatest_one (InSet t) (in_cone_set t.generators t.lines) (opposite_objective c) (opposite_extended k) (opposite_extended l) x.right y.right)))
    value MaximalFace d u v w a b = lists t o c one other MaximalFace v w a b refl (λ k l x y. face_one (InSet t) (in_cone_set t.generators t.lines) c o.rays k l x y)
    value MinimalFace d u v w a b = lists t o c one other MinimalFace v w a b refl (λ k l x y. face_one (InSet t) (in_cone_set t.generators t.lines) (opposite_objective c) o.rays k l x y)
    value MaximalDual d u v w a b = absurd (true≢false (sym d))
    value MinimalDual d u v w a b = absurd (true≢false (sym d))
    value PlacingTriangulation d u v w a b = absurd (true≢false (sym d))
    value Sites d u v w a b = absurd (true≢false (sym d))
    value SiteHeights d u v w a b = matrices t o c one other SiteHeights v w a b refl heights
    value RegularCells d u v w a b = families t o c one other RegularCells v w a b refl (λ k l n m x y. ap₂ sets
        (families_same (length t.sites) (IsCell t.cols t.sites t.heights) k l (record { each = x.right.1.each; all = x.right.1.all; ordered = x.right.1.ordered }) (record { each = y.right.1.each; all = y.right.1.all; ordered = y.right.1.ordered }))
        (x.right.0 ∙ sym y.right.0))
    value DelaunayCells d u v w a b = families t o c one other DelaunayCells v w a b refl (λ k l n m x y. ap₂ sets
        (families_same (length t.sites) (IsCell t.cols t.sites (squares t.sites)) k l (record { each = x.right.1.each; all = x.right.1.all; ordered = x.right.1.ordered }) (record { each = y.right.1.each; all = y.right.1.all; ordered = y.right.1.ordered }))
        (x.right.0 ∙ sym y.right.0))

pub one_value : OneValue
one_value p d t h u o are c one other v w a b = value t h o are c one other p d u v w a b
