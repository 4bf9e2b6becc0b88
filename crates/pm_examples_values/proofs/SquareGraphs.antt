-- The graphs of the unit square and of a bipyramid.
use Rattle.pm_vector.proofs.Lists.{Among, Contains_among, here, there}
use Rattle.pm_vector.proofs.Ring.{ring}
use Rattle.pm_vector.specs.Cones.{InCone}
use Rattle.pm_vector.specs.Rows.{HasCols, dot}
use Rattle.pm_geom.proofs.ShortRows.{by_three}
use Rattle.pm_geom.proofs.SmallGraphs.{square_graph_is_read}
use Rattle.pm_geom.proofs.Square.{square_is_read}
use Rattle.pm_geom.specs.Examples.{edges, square}
use Rattle.pm_geom.specs.Faces.{ray}
use Rattle.pm_geom.specs.GraphExamples.{square_graph}
use Rattle.pm_geom.specs.Graphs.{IsEdge, IsRidge}
use Rattle.pm_geom.specs.Things.{Orders}
use Rattle.pm_graph.proofs.RightGraphs.{dual_greatest_distance_is_diameter, greatest_distance_is_diameter}
use Rattle.pm_ranks.proofs.Facets.{ridges_by_facets}
use Rattle.pm_ranks.proofs.Tests.{is_zero}
use Rattle.pm_examples_values.proofs.BipyramidExamples.{bipyramid_counts_are_read}
use Rattle.pm_examples_values.proofs.GraphTests.{facet_graph, ray_graph}
use Rattle.pm_examples_values.proofs.OneList.{one_graph}
use Rattle.pm_examples_values.proofs.Square.{square_sets_are_read}
use Rattle.pm_examples_values.proofs.SquareFaces.{square_cols}
use Rattle.pm_examples_values.specs.BipyramidExamples.{bipyramid, bipyramid_orders, bipyramid_thing, sides}
use Rattle.pm_examples_values.specs.Examples.{square_orders, square_thing}
use Rattle.pm_examples_values.specs.GraphExamples.{BipyramidGraphsAreRead, SquareGraphsAreRead, bipyramid_graph, prism_graph, with_diagonals}
use Rattle.pm_types.specs.Right.{IsFacetGraph, IsRayGraph}
use Rattle.pm_types.specs.Things.{AreOrders}
use Rattle.std.proofs.Common.{ap, arith, refl, ◌∙◌}
use Rattle.std.proofs.lemmas.Int.{ints}
use Rattle.std.specs.Prelude.{[], length, map, ℕ, ◌∷◌, ◌≡◌}
use lib.IntN.{pos, ℤ}

-- ---- the square
square_rays : IsRayGraph square_thing square square_graph
square_rays = square_graph_is_read.graph

square_facets : IsFacetGraph square_thing square edges square_graph
unfolding is_zero
square_facets = facet_graph 3 square [] square_cols tt square edges square_is_read.order square_is_read.facets square_graph refl

-- a row of the square at both x1 = 0 and x1 = 1 is zero
null_at_both : (a b c : ℤ) → InCone square [] (a ∷ b ∷ c ∷ []) → dot (ray edges 0) (a ∷ b ∷ c ∷ []) ≡ pos 0 → dot (ray edges 3) (a ∷ b ∷ c ∷ []) ≡ pos 0 → dot (ray edges 1) (a ∷ b ∷ c ∷ []) ≡ pos 0
null_at_both a b c h p q =
    let x = (square_is_read.facets.each 1 [] (omega arith)).inside.holds (a ∷ b ∷ c ∷ []) refl h in
    let y = (square_is_read.facets.each 2 [] (omega arith)).inside.holds (a ∷ b ∷ c ∷ []) refl h in
    let x' = simp ring at x in
    let y' = simp ring at y in
    let p' = simp ring at p in
    let q' = simp ring at q in
    simp ring (omega (arith, ints))

-- so these two sides share no corner, and any third side has all that they share
opposite_sides : (p : Orders) → AreOrders square_thing p → ¬ (IsRidge 3 square [] p.rays edges 0 3)
opposite_sides p o r =
    ((ridges_by_facets 3 square [] square_cols tt p.rays edges o.rays square_is_read.facets 0 3).0 r).3 1 (omega arith) (λ e. absurd (omega arith)) (λ e. absurd (omega arith))
    (λ j l e f. let v = o.rays.each j [] l in by_three (λ x. InCone square [] x → dot (ray edges 0) x ≡ pos 0 → dot (ray edges 3) x ≡ pos 0 → dot (ray edges 1) x ≡ pos 0) null_at_both (ray p.rays j) v.cols v.inside e f)

last_neighbour : Among {X = ℕ} 3 (1 ∷ 3 ∷ [])
last_neighbour = there here

pub square_graphs_are_read : SquareGraphsAreRead
square_graphs_are_read = record {
  graph = (refl, square_rays);
  diagonals = λ g. let e = one_graph 4 (IsEdge 3 square [] square) with_diagonals square_graph g.1 square_rays in cc;
  dual_graph = (refl, record { orders = square_orders; are_orders = square_sets_are_read.orders; holds = square_facets });
  other_order = λ h. opposite_sides h.1.orders h.1.are_orders ((h.1.holds.edges 0 3 (omega arith)).0 (Contains_among last_neighbour));
  diameter = record { orders = square_orders; are_orders = square_sets_are_read.orders; holds = (2, refl, greatest_distance_is_diameter 3 square [] square_cols tt square square_is_read.order square_graph square_rays 2 square_graph_is_read.diameter.greatest) };
  dual_diameter = record { orders = square_orders; are_orders = square_sets_are_read.orders; holds = (2, refl, dual_greatest_distance_is_diameter 3 square [] square_cols tt square edges square_is_read.order square_is_read.facets square_graph square_facets 2 square_graph_is_read.diameter.greatest) };
  n_edges = record { orders = square_orders; are_orders = square_sets_are_read.orders; holds = (square_graph, square_rays, refl) };
  n_ridges = record { orders = square_orders; are_orders = square_sets_are_read.orders; holds = (square_graph, square_facets, refl) };
  degrees = (square_graph, square_rays, refl);
  diagonals_counted = λ w. let e : pos 3 ∷ pos 3 ∷ pos 3 ∷ pos 3 ∷ [] ≡ pos 2 ∷ pos 2 ∷ pos 2 ∷ pos 2 ∷ [] = w.2 ∙ ap (map (λ row. pos (length row))) (one_graph 4 (IsEdge 3 square [] square) w.0 square_graph w.1 square_rays) in cc;
}

-- ---- the bipyramid
bipyramid_cols : HasCols 4 bipyramid
bipyramid_cols = (refl, (refl, (refl, (refl, (refl, tt)))))

bipyramid_rays : IsRayGraph bipyramid_thing bipyramid bipyramid_graph
unfolding is_zero
bipyramid_rays = ray_graph 4 bipyramid [] bipyramid_cols tt bipyramid sides bipyramid_counts_are_read.orders.rays bipyramid_counts_are_read.orders.facets bipyramid_graph refl

bipyramid_facets : IsFacetGraph bipyramid_thing bipyramid sides prism_graph
unfolding is_zero
bipyramid_facets = facet_graph 4 bipyramid [] bipyramid_cols tt bipyramid sides bipyramid_counts_are_read.orders.rays bipyramid_counts_are_read.orders.facets prism_graph refl

pub bipyramid_graphs_are_read : BipyramidGraphsAreRead
bipyramid_graphs_are_read = record {
  graph = (refl, bipyramid_rays);
  of_the_facets = λ g. let e : 6 ≡ 5 = g.1.nodes in omega arith;
  dual_graph = (refl, record { orders = bipyramid_orders; are_orders = bipyramid_counts_are_read.orders; holds = bipyramid_facets });
  of_the_rays = λ h. let e : 5 ≡ 6 = h.1.holds.nodes in omega arith;
  degrees = (bipyramid_graph, bipyramid_rays, refl);
  turned = λ w. let e : pos 3 ∷ pos 3 ∷ pos 4 ∷ pos 4 ∷ pos 4 ∷ [] ≡ pos 4 ∷ pos 4 ∷ pos 4 ∷ pos 3 ∷ pos 3 ∷ [] = w.2 ∙ ap (map (λ row. pos (length row))) (one_graph 5 (IsEdge 4 bipyramid [] bipyramid) w.0 bipyramid_graph w.1 bipyramid_rays) in cc;
  n_edges = record { orders = bipyramid_orders; are_orders = bipyramid_counts_are_read.orders; holds = (bipyramid_graph, bipyramid_rays, refl) };
  n_ridges = record { orders = bipyramid_orders; are_orders = bipyramid_counts_are_read.orders; holds = (prism_graph, bipyramid_facets, refl) };
}
