-- The empty polytope, a line, a segment, the unit square and a bipyramid: which graphs, diameters and degrees are
-- right.
use Rattle.std.specs.Prelude.{ℕ, List, [], ◌∷◌}
use Rattle.pm_geom.specs.GraphExamples.{square_graph}
use Rattle.pm_props.specs.declared.property.PropId.TheVariants.{Diameter, DualDiameter, DualGraph, Graph, NEdges, NRidges, VertexDegrees}
use Rattle.pm_examples_values.specs.BipyramidExamples.{BipyramidHas}
use Rattle.pm_examples_values.specs.FaceExamples.{EndsHave}
use Rattle.pm_examples_values.specs.RayExamples.{EmptyHas, LineHas, SquareHas}
use Rattle.pm_types.specs.Values.{counts, edges, whole}
use lib.IntN.{pos}

-- the graphs of the empty polytope have no node, and so no edge and no distance
pub record EmptyGraphsAreRead : Type 0 where
  pub graph : EmptyHas Graph (edges [] 0)
  pub a_node : ¬ (EmptyHas Graph (edges ([] ∷ []) 1))
  pub dual_graph : EmptyHas DualGraph (edges [] 0)
  pub a_facet : ¬ (EmptyHas DualGraph (edges ([] ∷ []) 1))
  pub diameter : EmptyHas Diameter (whole (pos 0))
  pub a_distance : ¬ (EmptyHas Diameter (whole (pos 1)))
  pub dual_diameter : EmptyHas DualDiameter (whole (pos 0))
  pub n_edges : EmptyHas NEdges (whole (pos 0))
  pub an_edge : ¬ (EmptyHas NEdges (whole (pos 1)))
  pub n_ridges : EmptyHas NRidges (whole (pos 0))
  pub degrees : EmptyHas VertexDegrees (counts [])
  pub a_degree : ¬ (EmptyHas VertexDegrees (counts (pos 0 ∷ [])))

-- the one ray of a line in the plane is joined to none, and not to itself
pub record LineGraphsAreRead : Type 0 where
  pub graph : LineHas Graph (edges ([] ∷ []) 1)
  pub no_node : ¬ (LineHas Graph (edges [] 0))
  -- the column count is the number of nodes
  pub no_columns : ¬ (LineHas Graph (edges ([] ∷ []) 0))
  pub loop : ¬ (LineHas Graph (edges ((0 ∷ []) ∷ []) 1))
  pub dual_graph : LineHas DualGraph (edges ([] ∷ []) 1)
  pub dual_columns : ¬ (LineHas DualGraph (edges ([] ∷ []) 2))
  pub dual_loop : ¬ (LineHas DualGraph (edges ((0 ∷ []) ∷ []) 1))
  pub diameter : LineHas Diameter (whole (pos 0))
  pub a_distance : ¬ (LineHas Diameter (whole (pos 1)))
  pub dual_diameter : LineHas DualDiameter (whole (pos 0))
  pub n_edges : LineHas NEdges (whole (pos 0))
  pub n_ridges : LineHas NRidges (whole (pos 0))
  pub degrees : LineHas VertexDegrees (counts (pos 0 ∷ []))
  pub no_degree : ¬ (LineHas VertexDegrees (counts []))

-- two nodes
abbrev pub joined : List (List ℕ)
joined = (1 ∷ []) ∷ (0 ∷ []) ∷ []

abbrev pub joined_one_way : List (List ℕ)
joined_one_way = (1 ∷ []) ∷ [] ∷ []

abbrev pub joined_to_themselves : List (List ℕ)
joined_to_themselves = (0 ∷ 1 ∷ []) ∷ (0 ∷ 1 ∷ []) ∷ []

abbrev pub apart : List (List ℕ)
apart = [] ∷ [] ∷ []

-- the ends of a segment are joined, and so are its two facets, which share the least face
pub record SegmentGraphsAreRead : Type 0 where
  pub graph : EndsHave Graph (edges joined 2)
  pub one_way : ¬ (EndsHave Graph (edges joined_one_way 2))
  pub loops : ¬ (EndsHave Graph (edges joined_to_themselves 2))
  pub no_edge : ¬ (EndsHave Graph (edges apart 2))
  pub dual_graph : EndsHave DualGraph (edges joined 2)
  pub dual_one_way : ¬ (EndsHave DualGraph (edges joined_one_way 2))
  pub dual_loops : ¬ (EndsHave DualGraph (edges joined_to_themselves 2))
  pub no_ridge : ¬ (EndsHave DualGraph (edges apart 2))
  -- each end has one neighbour
  pub degrees : EndsHave VertexDegrees (counts (pos 1 ∷ pos 1 ∷ []))
  pub with_themselves : ¬ (EndsHave VertexDegrees (counts (pos 2 ∷ pos 2 ∷ [])))
  pub of_one_end : ¬ (EndsHave VertexDegrees (counts (pos 1 ∷ [])))

-- in whatever order one edge and one ridge, each counted once, and one step from end to end
pub record SegmentNumbersAreRead : Type 0 where
  pub diameter : EndsHave Diameter (whole (pos 1))
  pub one_short : ¬ (EndsHave Diameter (whole (pos 0)))
  pub two_steps : ¬ (EndsHave Diameter (whole (pos 2)))
  pub dual_diameter : EndsHave DualDiameter (whole (pos 1))
  pub dual_one_short : ¬ (EndsHave DualDiameter (whole (pos 0)))
  pub dual_two_steps : ¬ (EndsHave DualDiameter (whole (pos 2)))
  pub n_edges : EndsHave NEdges (whole (pos 1))
  pub counted_twice : ¬ (EndsHave NEdges (whole (pos 2)))
  pub not_counted : ¬ (EndsHave NEdges (whole (pos 0)))
  pub n_ridges : EndsHave NRidges (whole (pos 1))
  pub ridge_twice : ¬ (EndsHave NRidges (whole (pos 2)))
  pub ridge_not_counted : ¬ (EndsHave NRidges (whole (pos 0)))

-- all corners of the square joined to one another
abbrev pub with_diagonals : List (List ℕ)
with_diagonals = (1 ∷ 2 ∷ 3 ∷ []) ∷ (0 ∷ 2 ∷ 3 ∷ []) ∷ (0 ∷ 1 ∷ 3 ∷ []) ∷ (0 ∷ 1 ∷ 2 ∷ []) ∷ []

-- the sides of the square, were they numbered from side to side
abbrev pub round : List (List ℕ)
round = (1 ∷ 3 ∷ []) ∷ (0 ∷ 2 ∷ []) ∷ (1 ∷ 3 ∷ []) ∷ (0 ∷ 2 ∷ []) ∷ []

-- sides join corners, and corners join sides; diagonals join nothing
pub record SquareGraphsAreRead : Type 0 where
  pub graph : SquareHas Graph (edges square_graph 4)
  pub diagonals : ¬ (SquareHas Graph (edges with_diagonals 4))
  pub dual_graph : SquareHas DualGraph (edges square_graph 4)
  pub other_order : ¬ (SquareHas DualGraph (edges round 4))
  pub diameter : SquareHas Diameter (whole (pos 2))
  pub dual_diameter : SquareHas DualDiameter (whole (pos 2))
  pub n_edges : SquareHas NEdges (whole (pos 4))
  pub n_ridges : SquareHas NRidges (whole (pos 4))
  pub degrees : SquareHas VertexDegrees (counts (pos 2 ∷ pos 2 ∷ pos 2 ∷ pos 2 ∷ []))
  pub diagonals_counted : ¬ (SquareHas VertexDegrees (counts (pos 3 ∷ pos 3 ∷ pos 3 ∷ pos 3 ∷ [])))

-- each corner of the triangle is joined to all others, the tips not to one another
abbrev pub bipyramid_graph : List (List ℕ)
bipyramid_graph = (1 ∷ 2 ∷ 3 ∷ 4 ∷ []) ∷ (0 ∷ 2 ∷ 3 ∷ 4 ∷ []) ∷ (0 ∷ 1 ∷ 3 ∷ 4 ∷ []) ∷ (0 ∷ 1 ∷ 2 ∷ [])
    ∷ (0 ∷ 1 ∷ 2 ∷ []) ∷ []

-- each facet is joined to the two others at its tip, and to the one beyond the side of the triangle
abbrev pub prism_graph : List (List ℕ)
prism_graph = (1 ∷ 2 ∷ 3 ∷ []) ∷ (0 ∷ 2 ∷ 4 ∷ []) ∷ (0 ∷ 1 ∷ 5 ∷ []) ∷ (0 ∷ 4 ∷ 5 ∷ []) ∷ (1 ∷ 3 ∷ 5 ∷ [])
    ∷ (2 ∷ 3 ∷ 4 ∷ []) ∷ []

-- its five rays and its six facets have different graphs, and its rays different degrees, in their order
pub record BipyramidGraphsAreRead : Type 0 where
  pub graph : BipyramidHas Graph (edges bipyramid_graph 5)
  pub of_the_facets : ¬ (BipyramidHas Graph (edges prism_graph 6))
  pub dual_graph : BipyramidHas DualGraph (edges prism_graph 6)
  pub of_the_rays : ¬ (BipyramidHas DualGraph (edges bipyramid_graph 5))
  pub degrees : BipyramidHas VertexDegrees (counts (pos 4 ∷ pos 4 ∷ pos 4 ∷ pos 3 ∷ pos 3 ∷ []))
  pub turned : ¬ (BipyramidHas VertexDegrees (counts (pos 3 ∷ pos 3 ∷ pos 4 ∷ pos 4 ∷ pos 4 ∷ [])))
  pub n_edges : BipyramidHas NEdges (whole (pos 9))
  pub n_ridges : BipyramidHas NRidges (whole (pos 9))
