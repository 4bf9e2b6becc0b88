-- Which sets, lattices, lists of numbers, whole numbers and truth values have the form of their property; which rows
-- pass the tests of rows; and faults of JSON values.
use Rattle.std.specs.Prelude.{◌≡◌, ◌-◌, ◌^◌, [], ◌∷◌, Ok, Err, false, true}
use Rattle.pm_geom.specs.Examples.{pair}
use Rattle.pm_json.specs.Readings.{reading}
use Rattle.pm_json.specs.declared.fail.ValueFail.TheVariants.{Index, Limit, Number, Shape}
use Rattle.pm_examples_objects.specs.JsonExamples.{cols, list, whole_number}
use Rattle.pm_object_type.specs.declared.object_type.ObjectType.TheVariants.{Cone, Fan, Polytope}
use Rattle.pm_props.specs.declared.property.PropId.TheVariants.{Bounded, ConeAmbientDim, ConeDim, FVector, Facets, Graph, HasseDiagram, LinealitySpace, Points, VertexSizes, Vertices, VerticesInFacets}
use Rattle.pm_types.specs.Forms.{are_rows, is_formed}
use Rattle.pm_types.specs.Values.{PropertyValue, counts, lattice, matrix, sets, truth, whole}
use Rattle.pm_types.specs.Views.{ratios}
use Rattle.pm_vector.specs.Rows.{Row}
use Rattle.serde_json.specs.Data.{boolean, negative, null}
use Rattle.serde_json.specs.Data as json
use lib.IntN.{negsuc, pos}

-- sets rise, below their column count, which is at most 2,048; so do faces, below 2,048; numbers have 64 bits, and a
-- number of columns is from 1 to 33
pub record ValueFormsAreRead : Type 0 where
  pub sets_rise : is_formed VerticesInFacets (sets ((0 ∷ 2 ∷ []) ∷ [] ∷ []) 3) ≡ true
  pub not_below : is_formed VerticesInFacets (sets ((0 ∷ 3 ∷ []) ∷ []) 3) ≡ false
  pub falling : is_formed VerticesInFacets (sets ((2 ∷ 0 ∷ []) ∷ []) 3) ≡ false
  pub twice : is_formed VerticesInFacets (sets ((0 ∷ 0 ∷ []) ∷ []) 3) ≡ false
  pub most_columns : is_formed VerticesInFacets (sets [] 2048) ≡ true
  pub more_columns : is_formed VerticesInFacets (sets [] 2049) ≡ false
  pub not_sets : is_formed VertexSizes (sets [] 3) ≡ false
  pub faces_rise : is_formed HasseDiagram (lattice (([] ∷ []) ∷ ((0 ∷ 2047 ∷ []) ∷ []) ∷ [])) ≡ true
  pub faces_fall : is_formed HasseDiagram (lattice (((1 ∷ 0 ∷ []) ∷ []) ∷ [])) ≡ false
  pub no_such_ray : is_formed HasseDiagram (lattice (((2048 ∷ []) ∷ []) ∷ [])) ≡ false
  pub not_a_lattice : is_formed Graph (lattice []) ≡ false
  pub numbers : is_formed FVector (counts (pos (2 ^ 63 - 1) ∷ negsuc (2 ^ 63 - 1) ∷ [])) ≡ true
  pub too_great : is_formed FVector (counts (pos (2 ^ 63) ∷ [])) ≡ false
  pub too_little : is_formed FVector (counts (negsuc (2 ^ 63) ∷ [])) ≡ false
  pub not_numbers : is_formed ConeDim (counts []) ≡ false
  pub whole_numbers : is_formed ConeDim (whole (pos (2 ^ 63 - 1))) ≡ true
  pub no_64_bits : is_formed ConeDim (whole (pos (2 ^ 63))) ≡ false
  pub columns : is_formed ConeAmbientDim (whole (pos 33)) ≡ true
  pub too_many_columns : is_formed ConeAmbientDim (whole (pos 34)) ≡ false
  pub no_columns : is_formed ConeAmbientDim (whole (pos 0)) ≡ false
  pub truth_value : is_formed Bounded (truth false) ≡ true
  pub not_a_truth_value : is_formed ConeDim (truth true) ≡ false

-- one row of two columns
abbrev pub alone : Row → PropertyValue
alone x = matrix 2 (ratios x ∷ [])

-- the row (-1, 0)
abbrev pub behind : Row
behind = negsuc 0 ∷ pos 0 ∷ []

-- points of a polytope do not lie behind, its lines have first coordinate 0, and no ray and no facet row is zero; of
-- a cone or fan only the last is asked
pub record RowTestsAreRead : Type 0 where
  pub point : are_rows Polytope Points (alone (pair 0 0)) ≡ true
  pub point_behind : are_rows Polytope Points (alone behind) ≡ false
  pub ray_behind : are_rows Cone Points (alone behind) ≡ true
  pub line : are_rows Polytope LinealitySpace (alone (pair 0 1)) ≡ true
  pub no_line : are_rows Polytope LinealitySpace (alone (pair 1 1)) ≡ false
  pub line_of_cone : are_rows Cone LinealitySpace (alone (pair 1 1)) ≡ true
  pub vertex : are_rows Polytope Vertices (alone (pair 0 1)) ≡ true
  pub vertex_behind : are_rows Polytope Vertices (alone behind) ≡ false
  pub zero_vertex : are_rows Polytope Vertices (alone (pair 0 0)) ≡ false
  pub zero_ray : are_rows Fan Vertices (alone (pair 0 0)) ≡ false
  pub ray_of_fan : are_rows Fan Vertices (alone behind) ≡ true
  pub facet : are_rows Polytope Facets (alone behind) ≡ true
  pub zero_facet : are_rows Polytope Facets (alone (pair 0 0)) ≡ false

-- a fault is that of the first element that has one, and there the first of shape, number, index and limit
pub record FaultsAreRead : Type 0 where
  -- an index above the stated column count, and one below 0
  pub above : reading VerticesInFacets (list (list (whole_number 3 ∷ []) ∷ cols 3 ∷ [])) ≡ Err Index
  pub below : reading VerticesInFacets (list (list (json.number (negative (negsuc 0)) ∷ []) ∷ []))
      ≡ Err Index
  pub inside : reading VerticesInFacets (list (list (whole_number 2 ∷ []) ∷ cols 3 ∷ []))
      ≡ Ok (sets ((2 ∷ []) ∷ []) 3)
  pub no_node : reading Graph (list (list (whole_number 1 ∷ []) ∷ [])) ≡ Err Index
  pub one_way : reading Graph (list (list (whole_number 1 ∷ []) ∷ list [] ∷ [])) ≡ Err Shape
  -- in reading order
  pub limit_first : reading VerticesInFacets (list (list (whole_number 2048 ∷ []) ∷ null ∷ [])) ≡ Err Limit
  pub shape_first : reading VerticesInFacets (list (null ∷ list (whole_number 2048 ∷ []) ∷ [])) ≡ Err Shape
  pub index_last : reading VerticesInFacets (list (list (whole_number 3 ∷ []) ∷ null ∷ cols 3 ∷ []))
      ≡ Err Shape
  -- at one element
  pub too_long : reading Points (list (list (whole_number 1 ∷ []) ∷ list (whole_number 1 ∷ null ∷ []) ∷ []))
      ≡ Err Shape
  pub no_number : reading Points (list (list (json.string [] ∷ boolean true ∷ []) ∷ [])) ≡ Err Number
  pub no_entry : reading Points (list (list (boolean true ∷ json.string [] ∷ []) ∷ [])) ≡ Err Shape
