-- The graphs of the empty polytope, a line and a segment.
use Rattle.pm_geom.specs.Examples.{triple}
use Rattle.pm_geom.specs.Graphs.{IsDiameter, IsEdge, IsGraph, IsRidge, edge_count}
use Rattle.pm_geom.specs.Things.{Orders}
use Rattle.pm_relations.proofs.Orders.{as_many_facets, as_many_rays}
use Rattle.pm_examples_values.proofs.FewNodes.{few_diameter, joined_diameter, one_diameter, one_facet_graph, one_ray_graph, two_facet_graph, two_ray_graph}
use Rattle.pm_examples_values.proofs.GraphTests.{facet_graph, ray_graph}
use Rattle.pm_examples_values.proofs.OneList.{one_graph}
use Rattle.pm_examples_values.proofs.RayExamples.{line_are_orders}
use Rattle.pm_examples_values.proofs.Segment.{empty_are_orders, segment_are_orders, segment_cols}
use Rattle.pm_examples_values.specs.Examples.{empty_thing, no_orders}
use Rattle.pm_examples_values.specs.FaceExamples.{segment_orders, segment_thing}
use Rattle.pm_examples_values.specs.GraphExamples.{EmptyGraphsAreRead, LineGraphsAreRead, SegmentGraphsAreRead, SegmentNumbersAreRead, joined}
use Rattle.pm_examples_values.specs.RayExamples.{from_zero, line_orders, line_thing}
use Rattle.pm_types.specs.Right.{InSomeOrders, IsFacetGraph, IsRayGraph}
use Rattle.pm_types.specs.Things.{AreOrders, Thing}
use Rattle.std.proofs.Common.{ap, arith, refl, sym, ◌∙◌}
use Rattle.std.proofs.lemmas.Int.{ints}
use Rattle.std.specs.Prelude.{List, [], length, map, ℕ, ◌∷◌, ◌≡◌}
use lib.IntN.{pos, ℤ}

pos_is : {m n : ℕ} → pos m ≡ pos n → m ≡ n
pos_is e = cc

-- ---- numbers of edges and diameters, where the graph is the same in all orders
module _ (E : Orders → ℕ → ℕ → Type 0) (size : Orders → ℕ) (t : Thing) where
  count_is : (rows : List (List ℕ)) → ((p : Orders) → AreOrders t p → IsGraph (size p) (E p) rows) → (k : ℤ) → InSomeOrders t (λ p. (r : List (List ℕ)) × IsGraph (size p) (E p) r × (k ≡ pos (edge_count r))) → k ≡ pos (edge_count rows)
  count_is rows g k h = let w = h.holds in w.2 ∙ ap (λ r. pos (edge_count r)) (one_graph (size h.orders) (E h.orders) w.0 rows w.1 (g h.orders h.are_orders))

  diameter_is : (d : ℕ) → ((p : Orders) → AreOrders t p → IsDiameter (size p) (E p) d) → (k : ℤ) → InSomeOrders t (λ p. (m : ℕ) × (k ≡ pos m) × IsDiameter (size p) (E p) m) → k ≡ pos d
  diameter_is d g k h = let w = h.holds in w.1 ∙ ap pos (one_diameter (size h.orders) (E h.orders) w.0 d w.2 (g h.orders h.are_orders))

abbrev EdgeIn : Thing → Orders → ℕ → ℕ → Type 0
EdgeIn t p = IsEdge t.cols t.generators t.lines p.rays

abbrev RidgeIn : Thing → Orders → ℕ → ℕ → Type 0
RidgeIn t p = IsRidge t.cols t.generators t.lines p.rays p.facets

-- ---- the empty polytope
empty_rays : (p : Orders) → AreOrders empty_thing p → length p.rays ≡ 0
empty_rays p o = sym (as_many_rays empty_thing no_orders p empty_are_orders o)

empty_graph : IsRayGraph empty_thing [] []
empty_graph = ray_graph 2 [] [] tt tt [] [] empty_are_orders.rays empty_are_orders.facets [] refl

empty_dual : IsFacetGraph empty_thing [] [] []
empty_dual = facet_graph 2 [] [] tt tt [] [] empty_are_orders.rays empty_are_orders.facets [] refl

no_edges : (r : List (List ℕ)) → length r ≡ 0 → edge_count r ≡ 0
no_edges [] e = refl
no_edges (s ∷ r) e = absurd (omega arith)

no_degrees : (r : List (List ℕ)) → length r ≡ 0 → map (λ row. pos (length row)) r ≡ []
no_degrees [] e = refl
no_degrees (s ∷ r) e = absurd (omega arith)

pub empty_graphs_are_read : EmptyGraphsAreRead
empty_graphs_are_read = record {
  graph = (refl, empty_graph);
  a_node = λ g. let e : 1 ≡ 0 = g.1.nodes in omega arith;
  dual_graph = (refl, record { orders = no_orders; are_orders = empty_are_orders; holds = empty_dual });
  a_facet = λ h. let e : 1 ≡ 0 = h.1.holds.nodes in omega arith;
  diameter = record { orders = no_orders; are_orders = empty_are_orders; holds = (0, refl, few_diameter 0 (EdgeIn empty_thing no_orders) (omega arith)) };
  a_distance = λ h. let e = diameter_is (EdgeIn empty_thing) (λ p. length p.rays) empty_thing 0 (λ p o. few_diameter (length p.rays) (EdgeIn empty_thing p) (let q = empty_rays p o in omega arith)) (pos 1) h in omega (arith, ints);
  dual_diameter = record { orders = no_orders; are_orders = empty_are_orders; holds = (0, refl, few_diameter 0 (RidgeIn empty_thing no_orders) (omega arith)) };
  n_edges = record { orders = no_orders; are_orders = empty_are_orders; holds = ([], empty_graph, refl) };
  an_edge = λ h. let w = h.holds in let e = empty_rays h.orders h.are_orders in let n = w.1.nodes in let c = no_edges w.0 (omega arith) in let k = pos_is w.2 in omega arith;
  n_ridges = record { orders = no_orders; are_orders = empty_are_orders; holds = ([], empty_dual, refl) };
  degrees = ([], empty_graph, refl);
  a_degree = λ w. let e = w.2 ∙ no_degrees w.0 w.1.nodes in cc;
}

-- ---- the line
line_graph : IsRayGraph line_thing line_orders.rays ([] ∷ [])
line_graph = one_ray_graph 3 (triple 1 0 0 ∷ []) (triple 0 1 0 ∷ []) (refl, tt) (refl, tt) line_orders.rays line_orders.facets line_are_orders.rays line_are_orders.facets refl

line_dual : IsFacetGraph line_thing line_orders.rays line_orders.facets ([] ∷ [])
line_dual = one_facet_graph 3 (triple 1 0 0 ∷ []) (triple 0 1 0 ∷ []) (refl, tt) (refl, tt) line_orders.rays line_orders.facets line_are_orders.rays line_are_orders.facets refl

line_facet_graph : (p : Orders) → AreOrders line_thing p → IsFacetGraph line_thing p.rays line_orders.facets ([] ∷ [])
line_facet_graph p o = one_facet_graph 3 (triple 1 0 0 ∷ []) (triple 0 1 0 ∷ []) (refl, tt) (refl, tt) p.rays line_orders.facets o.rays line_are_orders.facets refl

line_rays : (p : Orders) → AreOrders line_thing p → length p.rays ≡ 1
line_rays p o = sym (as_many_rays line_thing line_orders p line_are_orders o)

pub line_graphs_are_read : LineGraphsAreRead
line_graphs_are_read = record {
  graph = (refl, line_graph);
  no_node = λ g. let e : 0 ≡ 1 = g.1.nodes in omega arith;
  no_columns = λ g. let e : 0 ≡ 1 = g.0 in omega arith;
  loop = λ g. let e = one_graph 1 (EdgeIn line_thing line_orders) _ ([] ∷ []) g.1 line_graph in cc;
  dual_graph = (refl, record { orders = line_orders; are_orders = line_are_orders; holds = line_dual });
  dual_columns = λ g. let e : 2 ≡ 1 = g.0 in omega arith;
  dual_loop = λ h. let e = one_graph 1 _ _ ([] ∷ []) h.1.holds (line_facet_graph h.1.orders h.1.are_orders) in cc;
  diameter = record { orders = line_orders; are_orders = line_are_orders; holds = (0, refl, few_diameter 1 (EdgeIn line_thing line_orders) (omega arith)) };
  a_distance = λ h. let e = diameter_is (EdgeIn line_thing) (λ p. length p.rays) line_thing 0 (λ p o. few_diameter (length p.rays) (EdgeIn line_thing p) (let q = line_rays p o in omega arith)) (pos 1) h in omega (arith, ints);
  dual_diameter = record { orders = line_orders; are_orders = line_are_orders; holds = (0, refl, few_diameter 1 (RidgeIn line_thing line_orders) (omega arith)) };
  n_edges = record { orders = line_orders; are_orders = line_are_orders; holds = ([] ∷ [], line_graph, refl) };
  n_ridges = record { orders = line_orders; are_orders = line_are_orders; holds = ([] ∷ [], line_dual, refl) };
  degrees = ([] ∷ [], line_graph, refl);
  no_degree = λ w. let e : [] ≡ pos 0 ∷ [] = w.2 ∙ ap (map (λ row. pos (length row))) (one_graph 1 (EdgeIn line_thing line_orders) w.0 ([] ∷ []) w.1 line_graph) in cc;
}

-- ---- the segment
ray_graph_in : (p : Orders) → AreOrders segment_thing p → IsRayGraph segment_thing p.rays joined
ray_graph_in p o = two_ray_graph 2 from_zero [] segment_cols tt p.rays p.facets o.rays o.facets (sym (as_many_rays segment_thing segment_orders p segment_are_orders o))

facet_graph_in : (p : Orders) → AreOrders segment_thing p → IsFacetGraph segment_thing p.rays p.facets joined
facet_graph_in p o = two_facet_graph 2 from_zero [] segment_cols tt p.rays p.facets o.rays o.facets (sym (as_many_facets segment_thing segment_orders p segment_are_orders o))

-- in the order of the facets at hand, and any order of the rays
facet_graph_here : (p : Orders) → AreOrders segment_thing p → IsFacetGraph segment_thing p.rays segment_orders.facets joined
facet_graph_here p o = two_facet_graph 2 from_zero [] segment_cols tt p.rays segment_orders.facets o.rays segment_are_orders.facets refl

graph_is : (rows : List (List ℕ)) → IsRayGraph segment_thing from_zero rows → rows ≡ joined
graph_is rows g = one_graph 2 (EdgeIn segment_thing segment_orders) rows joined g (ray_graph_in segment_orders segment_are_orders)

dual_is : (rows : List (List ℕ)) → InSomeOrders segment_thing (λ p. IsFacetGraph segment_thing p.rays segment_orders.facets rows) → rows ≡ joined
dual_is rows h = one_graph 2 _ rows joined h.holds (facet_graph_here h.orders h.are_orders)

degrees_are : (ks : List ℤ) → (rows : List (List ℕ)) × IsRayGraph segment_thing from_zero rows × (ks ≡ map (λ row. pos (length row)) rows) → ks ≡ pos 1 ∷ pos 1 ∷ []
degrees_are ks w = w.2 ∙ ap (map (λ row. pos (length row))) (graph_is w.0 w.1)

pub segment_graphs_are_read : SegmentGraphsAreRead
segment_graphs_are_read = record {
  graph = (refl, ray_graph_in segment_orders segment_are_orders);
  one_way = λ g. let e = graph_is _ g.1 in cc;
  loops = λ g. let e = graph_is _ g.1 in cc;
  no_edge = λ g. let e = graph_is _ g.1 in cc;
  dual_graph = (refl, record { orders = segment_orders; are_orders = segment_are_orders; holds = facet_graph_in segment_orders segment_are_orders });
  dual_one_way = λ h. let e = dual_is _ h.1 in cc;
  dual_loops = λ h. let e = dual_is _ h.1 in cc;
  no_ridge = λ h. let e = dual_is _ h.1 in cc;
  degrees = (joined, ray_graph_in segment_orders segment_are_orders, refl);
  with_themselves = λ w. let e = degrees_are (pos 2 ∷ pos 2 ∷ []) w in cc;
  of_one_end = λ w. let e = degrees_are (pos 1 ∷ []) w in cc;
}

ray_diameter : (p : Orders) → AreOrders segment_thing p → IsDiameter (length p.rays) (EdgeIn segment_thing p) 1
ray_diameter p o = joined_diameter (length p.rays) (EdgeIn segment_thing p) (sym (as_many_rays segment_thing segment_orders p segment_are_orders o)) (ray_graph_in p o)

facet_diameter : (p : Orders) → AreOrders segment_thing p → IsDiameter (length p.facets) (RidgeIn segment_thing p) 1
facet_diameter p o = joined_diameter (length p.facets) (RidgeIn segment_thing p) (sym (as_many_facets segment_thing segment_orders p segment_are_orders o)) (facet_graph_in p o)

ray_steps : (k : ℤ) → InSomeOrders segment_thing (λ p. (m : ℕ) × (k ≡ pos m) × IsDiameter (length p.rays) (EdgeIn segment_thing p) m) → k ≡ pos 1
ray_steps k h = diameter_is (EdgeIn segment_thing) (λ p. length p.rays) segment_thing 1 ray_diameter k h

facet_steps : (k : ℤ) → InSomeOrders segment_thing (λ p. (m : ℕ) × (k ≡ pos m) × IsDiameter (length p.facets) (RidgeIn segment_thing p) m) → k ≡ pos 1
facet_steps k h = diameter_is (RidgeIn segment_thing) (λ p. length p.facets) segment_thing 1 facet_diameter k h

ray_count : (k : ℤ) → InSomeOrders segment_thing (λ p. (r : List (List ℕ)) × IsRayGraph segment_thing p.rays r × (k ≡ pos (edge_count r))) → k ≡ pos 1
ray_count k h = count_is (EdgeIn segment_thing) (λ p. length p.rays) segment_thing joined ray_graph_in k h

facet_count : (k : ℤ) → InSomeOrders segment_thing (λ p. (r : List (List ℕ)) × IsFacetGraph segment_thing p.rays p.facets r × (k ≡ pos (edge_count r))) → k ≡ pos 1
facet_count k h = count_is (RidgeIn segment_thing) (λ p. length p.facets) segment_thing joined facet_graph_in k h

pub segment_numbers_are_read : SegmentNumbersAreRead
segment_numbers_are_read = record {
  diameter = record { orders = segment_orders; are_orders = segment_are_orders; holds = (1, refl, ray_diameter segment_orders segment_are_orders) };
  one_short = λ h. let e = ray_steps (pos 0) h in omega (arith, ints);
  two_steps = λ h. let e = ray_steps (pos 2) h in omega (arith, ints);
  dual_diameter = record { orders = segment_orders; are_orders = segment_are_orders; holds = (1, refl, facet_diameter segment_orders segment_are_orders) };
  dual_one_short = λ h. let e = facet_steps (pos 0) h in omega (arith, ints);
  dual_two_steps = λ h. let e = facet_steps (pos 2) h in omega (arith, ints);
  n_edges = record { orders = segment_orders; are_orders = segment_are_orders; holds = (joined, ray_graph_in segment_orders segment_are_orders, refl) };
  counted_twice = λ h. let e = ray_count (pos 2) h in omega (arith, ints);
  not_counted = λ h. let e = ray_count (pos 0) h in omega (arith, ints);
  n_ridges = record { orders = segment_orders; are_orders = segment_are_orders; holds = (joined, facet_graph_in segment_orders segment_are_orders, refl) };
  ridge_twice = λ h. let e = facet_count (pos 2) h in omega (arith, ints);
  ridge_not_counted = λ h. let e = facet_count (pos 0) h in omega (arith, ints);
}
