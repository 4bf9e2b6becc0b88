-- The graphs of a cone in two orders are the same but for the names of their nodes.
use Rattle.pm_vector.proofs.ConeLaws.{in_cone_set}
use Rattle.pm_vector.proofs.Lists.{among_All}
use Rattle.pm_vector.specs.Cones.{InCone}
use Rattle.pm_vector.specs.Rows.{HasCols, Row, dot}
use Rattle.pm_geom.proofs.Incidence.{same_zero}
use Rattle.pm_geom.proofs.Reduce.{same_modulo_as}
use Rattle.pm_geom.specs.Cones.{IsExtreme, IsOrder, IsValid, SameModulo}
use Rattle.pm_geom.specs.Faces.{ray}
use Rattle.pm_geom.specs.Graphs.{IsEdge, IsGraph, IsRidge}
use Rattle.pm_geom.specs.Things.{AreConeOrders, Orders}
use Rattle.pm_laws_normal_fans.proofs.Places.{among_at}
use Rattle.pm_laws_things.proofs.EdgeCounts.{as_many_edges, graph_as}
use Rattle.pm_laws_things.proofs.OrdersExist.{orders_exist}
use Rattle.pm_laws_things.proofs.Renamed.{IsRenaming, one_place, renamed_back, renaming}
use Rattle.pm_laws_things.proofs.SameGraphs.{IsSameGraph, diameter_as}
use Rattle.pm_laws_things.specs.Orders.{GraphsAreOfAllOrders, GraphsOfAllOrders, HasEdges, HasFacetDiameter, HasRayDiameter, HasRidges, InAllOrders}
use Rattle.pm_object_type.specs.declared.object_type.ObjectType.TheVariants.{Cone, Fan, Polytope}
use Rattle.pm_object_type.specs.declared.object_type.ObjectType.{ObjectType}
use Rattle.pm_ranks.proofs.EdgeFacets.{edges_by_facets}
use Rattle.pm_ranks.proofs.Facets.{ridges_by_facets}
use Rattle.pm_relations.proofs.Orders.{Holds, facets_hold, holds_set}
use Rattle.pm_relations.proofs.Spans.{thing_cols}
use Rattle.pm_types.specs.Right.{InSomeOrders, IsFacetGraph}
use Rattle.pm_types.specs.Things.{AreOrders, AreOrdersOf, IsThing, Thing}
use Rattle.std.proofs.Common.{ap, refl, subst, sym, ◌∙◌}
use Rattle.std.specs.Prelude.{List, [], length, ℕ, ◌<◌, ◌↔◌, ◌≡◌}
use lib.IntN.{pos}

-- ---- what is alone in what it shares
-- i and j are different, and no third node has all that both have
abbrev Alone : ℕ → ℕ → (ℕ → ℕ → Type 0) → ℕ → ℕ → Type 0
Alone m q Z i j = (i < m) × (j < m) × ¬ (i ≡ j) × ((l : ℕ) → l < m → ¬ (l ≡ i) → ¬ (l ≡ j) → ¬ ((k : ℕ) → k < q → Z k i → Z k j → Z k l))

module _ (m q m' q' : ℕ) (Z Z' : ℕ → ℕ → Type 0) (to back of : ℕ → ℕ) (to_within : (i : ℕ) → i < m → to i < m') (back_within : (j : ℕ) → j < m' → back j < m) (back_to : (i : ℕ) → i < m → back (to i) ≡ i) (to_back : (j : ℕ) → j < m' → to (back j) ≡ j)
    (of_within : (k : ℕ) → k < q → of k < q') (same : (k j : ℕ) → k < q → j < m → Z k j ↔ Z' (of k) (to j)) where
  alone_as : (i j : ℕ) → Alone m q Z i j → Alone m' q' Z' (to i) (to j)
  alone_as i j a = (
    to_within i a.0,
    to_within j a.1,
    λ e. a.2 (sym (back_to i a.0) ∙ ap back e ∙ back_to j a.1),
    λ l ll ni nj f. a.3 (back l) (back_within l ll) (λ e. ni (sym (to_back l ll) ∙ ap to e)) (λ e. nj (sym (to_back l ll) ∙ ap to e))
        (λ k lk zi zj. (same k (back l) lk (back_within l ll)).1 (subst (λ x. Z' (of k) x) (sym (to_back l ll)) (f (of k) (of_within k lk) ((same k i lk a.0).0 zi) ((same k j lk a.1).0 zj)))),
  )

-- ---- two orders of a cone
module _ (n : ℕ) (G L : List Row) (hg : HasCols n G) (hl : HasCols n L) where
  ray_renaming : (V W : List Row) → IsOrder n (InCone G L) V → IsOrder n (InCone G L) W → IsRenaming n (InCone G L) V W
  ray_renaming = renaming n (InCone G L) (in_cone_set G L)

  -- facets are alike among the rows that hold, of any length
  facet_renaming : (F D : List Row) → IsOrder n (IsValid n G L) F → IsOrder n (IsValid n G L) D → IsRenaming n (Holds n G L) F D
  facet_renaming F D o q = renaming n (Holds n G L) (holds_set n G L) F D (facets_hold n G L F o) (facets_hold n G L D q)

  alike_facets : {a b : Row} → SameModulo n (Holds n G L) a b → SameModulo n (IsValid n G L) a b
  alike_facets s = same_modulo_as n (Holds n G L) (IsValid n G L) (λ a c h. record { cols = c; holds = h }) (λ a c v. v.holds) s

  module _ (V W F D : List Row) (oV : IsOrder n (InCone G L) V) (oW : IsOrder n (InCone G L) W) (oF : IsOrder n (IsValid n G L) F) (oD : IsOrder n (IsValid n G L) D) (rays : IsRenaming n (InCone G L) V W) (facets : IsRenaming n (Holds n G L) F D) where
    zeros : (k j : ℕ) → k < length F → j < length V → (dot (ray F k) (ray V j) ≡ pos 0) ↔ (dot (ray D (facets.to k)) (ray W (rays.to j)) ≡ pos 0)
    zeros k j lk lj =
        let r = among_All (λ v. IsExtreme n (InCone G L) v) (among_at [] V j lj) oV.each in
        let f = among_All (λ v. IsExtreme n (IsValid n G L) v) (among_at [] F k lk) oF.each in
        same_zero n G L (ray F k) (ray V j) (ray D (facets.to k)) (ray W (rays.to j)) (rays.alike j lj) (alike_facets (facets.alike k lk)) f.inside r.cols r.inside

    edge_as : (i j : ℕ) → IsEdge n G L V i j → IsEdge n G L W (rays.to i) (rays.to j)
    edge_as i j e = (edges_by_facets n G L hg hl W D oW oD (rays.to i) (rays.to j)).1
        (alone_as (length V) (length F) (length W) (length D) (λ k j. dot (ray F k) (ray V j) ≡ pos 0) (λ k j. dot (ray D k) (ray W j) ≡ pos 0) rays.to rays.back facets.to rays.to_within rays.back_within rays.back_to rays.to_back facets.to_within zeros i j
        ((edges_by_facets n G L hg hl V F oV oF i j).0 e))

    ridge_as : (i k : ℕ) → IsRidge n G L V F i k → IsRidge n G L W D (facets.to i) (facets.to k)
    ridge_as i k e = (ridges_by_facets n G L hg hl W D oW oD (facets.to i) (facets.to k)).1
        (alone_as (length F) (length V) (length D) (length W) (λ j k. dot (ray F k) (ray V j) ≡ pos 0) (λ j k. dot (ray D k) (ray W j) ≡ pos 0) facets.to facets.back rays.to facets.to_within facets.back_within facets.back_to facets.to_back rays.to_within (λ j k lj lk. zeros k j lk lj) i k
        ((ridges_by_facets n G L hg hl V F oV oF i k).0 e))

  module _ (V W F D : List Row) (oV : IsOrder n (InCone G L) V) (oW : IsOrder n (InCone G L) W) (oF : IsOrder n (IsValid n G L) F) (oD : IsOrder n (IsValid n G L) D) where
    rays : IsRenaming n (InCone G L) V W
    rays = ray_renaming V W oV oW

    facets : IsRenaming n (Holds n G L) F D
    facets = facet_renaming F D oF oD

    rays_back : IsRenaming n (InCone G L) W V
    rays_back = renamed_back n (InCone G L) (in_cone_set G L) rays

    facets_back : IsRenaming n (Holds n G L) D F
    facets_back = renamed_back n (Holds n G L) (holds_set n G L) facets

    pub same_rays : IsSameGraph (length V) (IsEdge n G L V) (length W) (IsEdge n G L W)
    unfolding rays_back
    same_rays = record {
      to = rays.to;
      back = rays.back;
      to_within = rays.to_within;
      back_within = rays.back_within;
      back_to = rays.back_to;
      to_back = rays.to_back;
      end = λ i j e. e.second;
      end_back = λ i j e. e.second;
      edge = λ i j l e. edge_as V W F D oV oW oF oD rays facets i j e;
      edge_back = λ i j l e. edge_as W V D F oW oV oD oF rays_back facets_back i j e;
    }

    same_facets : IsSameGraph (length F) (IsRidge n G L V F) (length D) (IsRidge n G L W D)
    unfolding facets_back
    same_facets = record {
      to = facets.to;
      back = facets.back;
      to_within = facets.to_within;
      back_within = facets.back_within;
      back_to = facets.back_to;
      to_back = facets.to_back;
      end = λ i j e. e.second;
      end_back = λ i j e. e.second;
      edge = λ i j l e. ridge_as V W F D oV oW oF oD rays facets i j e;
      edge_back = λ i j l e. ridge_as W V D F oW oV oD oF rays_back facets_back i j e;
    }

  pub turn_edge : (V F : List Row) → IsOrder n (InCone G L) V → IsOrder n (IsValid n G L) F → (i j : ℕ) → IsEdge n G L V i j → IsEdge n G L V j i
  turn_edge V F oV oF i j e =
      let w = (edges_by_facets n G L hg hl V F oV oF i j).0 e in
      (edges_by_facets n G L hg hl V F oV oF j i).1 (w.1, w.0, λ q. w.2 (sym q), λ l ll nj ni f. w.3 l ll ni nj (λ k lk zi zj. f k lk zj zi))

  turn_ridge : (V F : List Row) → IsOrder n (InCone G L) V → IsOrder n (IsValid n G L) F → (i k : ℕ) → IsRidge n G L V F i k → IsRidge n G L V F k i
  turn_ridge V F oV oF i k e =
      let w = (ridges_by_facets n G L hg hl V F oV oF i k).0 e in
      (ridges_by_facets n G L hg hl V F oV oF k i).1 (w.1, w.0, λ q. w.2 (sym q), λ l ll nk ni f. w.3 l ll ni nk (λ j lj zi zk. f j lj zk zi))

  -- facets in one order meet in the same ridges, whatever the order of the rays
  same_ridges : (V W F : List Row) → IsOrder n (InCone G L) V → IsOrder n (InCone G L) W → IsOrder n (IsValid n G L) F → (i k : ℕ) → IsRidge n G L V F i k → IsRidge n G L W F i k
  same_ridges V W F oV oW oF i k e =
      let r = ray_renaming V W oV oW in
      let s = facet_renaming F F oF oF in
      let stays : (j : ℕ) → j < length F → s.to j ≡ j = λ j l. sym (one_place n (Holds n G L) (holds_set n G L) F (facets_hold n G L F oF) j (s.to j) l (s.to_within j l) (s.alike j l)) in
      subst (λ x. IsRidge n G L W F i x) (stays k e.second) (subst (λ x. IsRidge n G L W F x (s.to k)) (stays i e.first) (ridge_as V W F F oV oW oF oF r s i k e))

  facet_graph_as : (V W F : List Row) → IsOrder n (InCone G L) V → IsOrder n (InCone G L) W → IsOrder n (IsValid n G L) F → (rows : List (List ℕ)) → IsGraph (length F) (IsRidge n G L V F) rows → IsGraph (length F) (IsRidge n G L W F) rows
  facet_graph_as V W F oV oW oF rows g = record {
    nodes = g.nodes;
    ascending = g.ascending;
    edges = λ i j l. (λ c. same_ridges V W F oV oW oF i j ((g.edges i j l).0 c), λ e. (g.edges i j l).1 (same_ridges W V F oW oV oF i j e));
  }

-- ---- a thing
cone_like : (of : ObjectType) → ¬ (of ≡ Fan) → (n : ℕ) (G L : List Row) (Gs : List (List Row)) (o : Orders) → AreOrdersOf of n G L Gs o → AreConeOrders n G L o
cone_like Polytope other n G L Gs o a = a
cone_like Cone other n G L Gs o a = a
cone_like Fan other n G L Gs o a = absurd (other refl)

module _ (t : Thing) (h : IsThing t) (other : ¬ (t.of ≡ Fan)) where
  cone : (o : Orders) → AreOrders t o → AreConeOrders t.cols t.generators t.lines o
  cone o a = cone_like t.of other t.cols t.generators t.lines t.cones o a

  -- what goes on from any orders to any is in all where it is in some
  everywhere : (P : Orders → Type 0) → ((o p : Orders) → AreOrders t o → AreOrders t p → P o → P p) → InSomeOrders t P ↔ InAllOrders t P
  everywhere P on = (
    λ s p are. on s.orders p s.are_orders are s.holds,
    λ all. let (o, are) = orders_exist t h in record { orders = o; are_orders = are; holds = all o are },
  )

  graphs : GraphsAreOfAllOrders t
  graphs =
      let (hg, hl) = thing_cols t h in
      record {
        ray_diameter = λ m. everywhere (HasRayDiameter t m) (λ o p a b d.
            let x = cone o a in
            let y = cone p b in
            diameter_as (length o.rays) (length p.rays) (IsEdge t.cols t.generators t.lines o.rays) (IsEdge t.cols t.generators t.lines p.rays)
            (same_rays t.cols t.generators t.lines hg hl o.rays p.rays o.facets p.facets x.rays y.rays x.facets y.facets) m d);
        facet_diameter = λ m. everywhere (HasFacetDiameter t m) (λ o p a b d.
            let x = cone o a in
            let y = cone p b in
            diameter_as (length o.facets) (length p.facets) (IsRidge t.cols t.generators t.lines o.rays o.facets) (IsRidge t.cols t.generators t.lines p.rays p.facets)
            (same_facets t.cols t.generators t.lines hg hl o.rays p.rays o.facets p.facets x.rays y.rays x.facets y.facets) m d);
        edge_number = λ k. everywhere (HasEdges t k) (λ o p a b w.
            let x = cone o a in
            let y = cone p b in
            let E = IsEdge t.cols t.generators t.lines o.rays in
            let D = IsEdge t.cols t.generators t.lines p.rays in
            let s = same_rays t.cols t.generators t.lines hg hl o.rays p.rays o.facets p.facets x.rays y.rays x.facets y.facets in
            let (others, h) = graph_as (length o.rays) (length p.rays) E D s w.0 w.1 in
            (others, h, w.2 ∙ as_many_edges (length o.rays) (length p.rays) E D s (turn_edge t.cols t.generators t.lines hg hl o.rays o.facets x.rays x.facets) (λ i j e. e.apart) (turn_edge t.cols t.generators t.lines hg hl p.rays p.facets y.rays y.facets) (λ i j e. e.apart) w.0 others w.1 h));
        ridge_number = λ k. everywhere (HasRidges t k) (λ o p a b w.
            let x = cone o a in
            let y = cone p b in
            let E = IsRidge t.cols t.generators t.lines o.rays o.facets in
            let D = IsRidge t.cols t.generators t.lines p.rays p.facets in
            let s = same_facets t.cols t.generators t.lines hg hl o.rays p.rays o.facets p.facets x.rays y.rays x.facets y.facets in
            let (others, h) = graph_as (length o.facets) (length p.facets) E D s w.0 w.1 in
            (others, h, w.2 ∙ as_many_edges (length o.facets) (length p.facets) E D s (turn_ridge t.cols t.generators t.lines hg hl o.rays o.facets x.rays x.facets) (λ i j e. e.apart) (turn_ridge t.cols t.generators t.lines hg hl p.rays p.facets y.rays y.facets) (λ i j e. e.apart) w.0 others w.1 h));
        ridges = λ q c rows. everywhere (λ p. IsFacetGraph t p.rays q.facets rows) (λ o p a b g.
            facet_graph_as t.cols t.generators t.lines hg hl o.rays p.rays q.facets (cone o a).rays (cone p b).rays (cone q c).facets rows g);
      }

pub graphs_of_all_orders : GraphsOfAllOrders
graphs_of_all_orders t h other = graphs t h other
