-- The examples of the square's graphs.
use Rattle.pm_vector.specs.Rows.{ratio_at}
use Rattle.pm_geom.proofs.SmallGraphs.{square_graph_is_read}
use Rattle.pm_geom.proofs.Square.{square_is_read}
use Rattle.pm_geom.specs.Examples.{edges, square, triple}
use Rattle.pm_geom.specs.GraphExamples.{square_graph}
use Rattle.pm_geom.specs.Graphs.{IsEdge, edge_count}
use Rattle.pm_laws_things.proofs.EdgeCounts.{as_many_edges}
use Rattle.pm_laws_things.proofs.Graphs.{graphs_of_all_orders, same_rays, turn_edge}
use Rattle.pm_laws_things.specs.OrderExamples.{SquareGraphsAreRead, square_orders, square_thing}
use Rattle.pm_laws_things.specs.Orders.{HasEdges, HasRayDiameter}
use Rattle.pm_object_type.specs.declared.object_type.ObjectType.TheVariants.{Fan, Polytope}
use Rattle.pm_ranks.proofs.GraphWalks.{diameter_to}
use Rattle.pm_relations.proofs.Sites.{no_sites}
use Rattle.pm_types.specs.Things.{AreOrders, IsThing}
use Rattle.pm_types.specs.Views.{ratios}
use Rattle.std.proofs.Common.{arith, inl, inr, refl, sym, ◌∙◌}
use Rattle.std.proofs.lemmas.Int.{ints}
use Rattle.std.specs.Prelude.{[], suc, zero, ℕ, ◌≡◌}
use lib.IntN.{pos}
use lib.Signed.{◌<ℤ◌}

-- ---- the thing
over_one : (i : ℕ) → pos 0 <ℤ (ratio_at (ratios (triple 0 0 0)) i).den
over_one zero = omega (arith, ints)
over_one (suc zero) = omega (arith, ints)
over_one (suc (suc zero)) = omega (arith, ints)
over_one (suc (suc (suc i))) = omega (arith, ints)

is_thing : IsThing square_thing
is_thing = record { some_cols = omega arith; few_cols = omega arith; kind = (square_is_read.polytope, refl); programs = record { cols = λ s. refl; denominators = λ s i l. over_one i }; sites = no_sites _ }

are_orders : AreOrders square_thing square_orders
are_orders = record { rays = square_is_read.order; facets = square_is_read.facets; cones = refl }

no_fan : ¬ (Polytope ≡ Fan)
no_fan e = cc

-- ---- edges
four_edges : HasEdges square_thing 4 square_orders
four_edges = (square_graph, square_graph_is_read.graph, sym square_graph_is_read.sides)

not_both : (k : ℕ) → k ≡ 4 → 3 ≡ k → ⊥
not_both k e f = omega arith

three_edges : HasEdges square_thing 3 square_orders → ⊥
three_edges w =
    let hg = square_is_read.polytope.cone.generators in
    let s = same_rays 3 square [] hg tt square square edges edges square_is_read.order square_is_read.order square_is_read.facets square_is_read.facets in
    let turn = turn_edge 3 square [] hg tt square edges square_is_read.order square_is_read.facets in
    not_both (edge_count w.0) (as_many_edges 4 4 (IsEdge 3 square [] square) (IsEdge 3 square [] square) s turn (λ i j e. e.apart) turn (λ i j e. e.apart) w.0 square_graph w.1 square_graph_is_read.graph ∙ square_graph_is_read.sides) w.2

-- ---- diameters
two_steps : HasRayDiameter square_thing 2 square_orders
two_steps = diameter_to 4 (IsEdge 3 square [] square) square_graph square_graph_is_read.graph 2 square_graph_is_read.diameter

not_none : (k : ℕ) → k ≡ 2 → k ≡ 0 → ⊥
not_none k e f = omega arith

one_step : HasRayDiameter square_thing 1 square_orders → ⊥
one_step d = by two_steps
  where
    by : HasRayDiameter square_thing 2 square_orders → ⊥
    by h = elim h.greatest.reached [
      | inl e ↦ not_none 2 refl e
      | inr w ↦ let l = d.greatest.bound w.0 w.1 2 w.2 w.3 w.4 in omega (arith, l)
    ]

pub square_graphs_read : SquareGraphsAreRead
square_graphs_read =
    let all = graphs_of_all_orders square_thing is_thing no_fan in
    record {
      orders = are_orders;
      four = four_edges;
      four_in_all = (all.edge_number 4).0 (record { orders = square_orders; are_orders = are_orders; holds = four_edges });
      not_three = three_edges;
      two_steps = two_steps;
      two_in_all = (all.ray_diameter 2).0 (record { orders = square_orders; are_orders = are_orders; holds = two_steps });
      not_one = one_step;
    }
