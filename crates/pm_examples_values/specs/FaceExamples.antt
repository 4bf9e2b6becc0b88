-- The empty polytope, a line, a segment and the unit square: which face lattices, f-vectors, f2-vectors and h-vectors
-- are right.
use Rattle.std.specs.Prelude.{ℕ, List, [], ◌∷◌, ◌≡◌}
use Rattle.pm_vector.specs.Rows.{Row}
use Rattle.pm_geom.specs.Examples.{pair}
use Rattle.pm_geom.specs.GraphExamples.{empty_lattice, ray_lattice, segment_lattice, square_lattice}
use Rattle.pm_geom.specs.Things.{Orders}
use Rattle.pm_props.specs.declared.property.PropId.{PropId}
use Rattle.pm_props.specs.declared.property.PropId.TheVariants.{F2Vector, FVector, HVector, HasseDiagram}
use Rattle.pm_examples_values.specs.RayExamples.{EmptyHas, LineHas, SquareHas, from_zero, segment_of}
use Rattle.pm_examples_values.specs.RowExamples.{whole_matrix}
use Rattle.pm_types.specs.Right.{Right, h_vector_of}
use Rattle.pm_types.specs.Things.{AreOrders, IsThing, Thing}
use Rattle.pm_types.specs.Values.{PropertyValue, counts, lattice}
use lib.IntN.{negsuc, pos}

-- the empty polytope has one face, which is both the least and the whole, and so no number of faces
pub record EmptyFacesAreRead : Type 0 where
  pub faces : EmptyHas HasseDiagram (lattice empty_lattice)
  pub no_face : ¬ (EmptyHas HasseDiagram (lattice []))
  pub f_vector : EmptyHas FVector (counts [])
  pub whole_counted : ¬ (EmptyHas FVector (counts (pos 1 ∷ [])))
  pub f2_vector : EmptyHas F2Vector (whole_matrix 0 [])
  pub pair_counted : ¬ (EmptyHas F2Vector (whole_matrix 1 ((pos 1 ∷ []) ∷ [])))
  -- its dimension is -1, and of that there is no h-vector
  pub h_vector : EmptyHas HVector (counts [])
  pub of_a_point : ¬ (EmptyHas HVector (counts (pos 1 ∷ [])))

-- the faces of a line in the plane, which has one extreme ray modulo its lineality: the lineality, and the line's cone
pub record LineFacesAreRead : Type 0 where
  pub faces : LineHas HasseDiagram (lattice ray_lattice)
  pub without_least : ¬ (LineHas HasseDiagram (lattice (((0 ∷ []) ∷ []) ∷ [])))
  pub without_whole : ¬ (LineHas HasseDiagram (lattice empty_lattice))
  pub turned : ¬ (LineHas HasseDiagram (lattice (((0 ∷ []) ∷ []) ∷ ([] ∷ []) ∷ [])))
  -- neither of the two is counted
  pub f_vector : LineHas FVector (counts [])
  pub whole_counted : ¬ (LineHas FVector (counts (pos 1 ∷ [])))
  pub f2_vector : LineHas F2Vector (whole_matrix 0 [])
  -- it has dimension 0, less the lineality
  pub h_vector : LineHas HVector (counts (pos 1 ∷ []))
  pub no_h_vector : ¬ (LineHas HVector (counts []))

-- the segment from 0 to 1
abbrev pub segment_thing : Thing
segment_thing = segment_of from_zero

-- its ends, and the rows that vanish at the first and at the second
abbrev pub ends : List Row
ends = pair 0 1 ∷ (pos 1 ∷ negsuc 0 ∷ []) ∷ []

abbrev pub segment_orders : Orders
segment_orders = record { rays = from_zero; facets = ends; cones = [] }

-- the value is right for the segment, its ends in their order
abbrev pub EndsHave : PropId → PropertyValue → Type 0
EndsHave p v = Right p v segment_thing segment_orders []

-- lists of its faces that lack one, have one too many, or have another order
pub record SegmentFacesAreRead : Type 0 where
  pub thing : IsThing segment_thing
  pub orders : AreOrders segment_thing segment_orders
  pub faces : EndsHave HasseDiagram (lattice segment_lattice)
  pub without_least
      : ¬ (EndsHave HasseDiagram (lattice (((0 ∷ []) ∷ (1 ∷ []) ∷ []) ∷ ((0 ∷ 1 ∷ []) ∷ []) ∷ [])))
  pub without_whole : ¬ (EndsHave HasseDiagram (lattice (([] ∷ []) ∷ ((0 ∷ []) ∷ (1 ∷ []) ∷ []) ∷ [])))
  pub one_end : ¬ (EndsHave HasseDiagram (lattice (([] ∷ []) ∷ ((0 ∷ []) ∷ []) ∷ ((0 ∷ 1 ∷ []) ∷ []) ∷ [])))
  pub ends_turned
      : ¬ (EndsHave HasseDiagram
      (lattice (([] ∷ []) ∷ ((1 ∷ []) ∷ (0 ∷ []) ∷ []) ∷ ((0 ∷ 1 ∷ []) ∷ []) ∷ [])))
  pub empty_rank
      : ¬ (EndsHave HasseDiagram
      (lattice (([] ∷ []) ∷ ((0 ∷ []) ∷ (1 ∷ []) ∷ []) ∷ ((0 ∷ 1 ∷ []) ∷ []) ∷ [] ∷ [])))

-- its ends alone are counted, in whatever order; the h-vector goes by the dimension 1
pub record SegmentCountsAreRead : Type 0 where
  pub f_vector : EndsHave FVector (counts (pos 2 ∷ []))
  pub all_counted : ¬ (EndsHave FVector (counts (pos 1 ∷ pos 2 ∷ pos 1 ∷ [])))
  pub whole_counted : ¬ (EndsHave FVector (counts (pos 2 ∷ pos 1 ∷ [])))
  pub too_many : ¬ (EndsHave FVector (counts (pos 3 ∷ [])))
  pub none_counted : ¬ (EndsHave FVector (counts []))
  pub f2_vector : EndsHave F2Vector (whole_matrix 1 ((pos 2 ∷ []) ∷ []))
  pub pairs_counted : ¬ (EndsHave F2Vector (whole_matrix 1 ((pos 4 ∷ []) ∷ [])))
  -- with as many columns as rows
  pub wide : ¬ (EndsHave F2Vector (whole_matrix 2 ((pos 2 ∷ []) ∷ [])))
  pub no_row : ¬ (EndsHave F2Vector (whole_matrix 0 []))
  pub h_vector : EndsHave HVector (counts (pos 1 ∷ pos 1 ∷ []))
  pub dimension_less : ¬ (EndsHave HVector (counts (pos 1 ∷ [])))
  pub dimension_more : ¬ (EndsHave HVector (counts (pos 1 ∷ pos 0 ∷ negsuc 0 ∷ [])))
  pub of_three : ¬ (EndsHave HVector (counts (pos 1 ∷ pos 2 ∷ [])))
  pub none : ¬ (EndsHave HVector (counts []))

-- the sides of the square, but a diagonal for the last of them
abbrev pub with_diagonal : List (List (List ℕ))
with_diagonal =
    ([] ∷ []) ∷
    ((0 ∷ []) ∷ (1 ∷ []) ∷ (2 ∷ []) ∷ (3 ∷ []) ∷ []) ∷
    ((0 ∷ 1 ∷ []) ∷ (0 ∷ 2 ∷ []) ∷ (0 ∷ 3 ∷ []) ∷ (1 ∷ 3 ∷ []) ∷ []) ∷
    ((0 ∷ 1 ∷ 2 ∷ 3 ∷ []) ∷ []) ∷ []

-- four corners and four sides, and each corner on two sides
pub record SquareFacesAreRead : Type 0 where
  pub faces : SquareHas HasseDiagram (lattice square_lattice)
  pub diagonal : ¬ (SquareHas HasseDiagram (lattice with_diagonal))
  pub f_vector : SquareHas FVector (counts (pos 4 ∷ pos 4 ∷ []))
  pub f2_vector : SquareHas F2Vector (whole_matrix 2 ((pos 4 ∷ pos 8 ∷ []) ∷ (pos 8 ∷ pos 4 ∷ []) ∷ []))
  pub h_vector : SquareHas HVector (counts (pos 1 ∷ pos 2 ∷ pos 1 ∷ []))

-- h-vectors that have a number of more than 64 bits, and the last that has none; in dimension -1 there is none
pub record HVectorsAreShort : Type 0 where
  pub short : h_vector_of (pos 2 ∷ []) (pos 1) ≡ pos 1 ∷ pos 1 ∷ []
  pub longest : h_vector_of (pos 9223372036854775808 ∷ []) (pos 1) ≡ pos 1 ∷ pos 9223372036854775807 ∷ []
  pub too_long : h_vector_of (pos 9223372036854775809 ∷ []) (pos 1) ≡ []
  pub not_cut : ¬ (h_vector_of (pos 9223372036854775809 ∷ []) (pos 1) ≡ pos 1 ∷ pos 9223372036854775808 ∷ [])
  pub no_dimension : h_vector_of [] (negsuc 0) ≡ []
