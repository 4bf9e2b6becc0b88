-- Values as JSON: what is written, and what is not.
use Rattle.std.specs.Prelude.{List, [], ◌∷◌, codes, true, false, ◌≡◌, ◌≢◌}
use Rattle.pm_vector.specs.Numbers.{Ratio}
use Rattle.pm_fraction.specs.Fractions.{ratio_of}
use Rattle.pm_props.specs.declared.property.PropId.TheVariants.{Bounded, ConeDim, FVector, Graph, HasseDiagram, LinearObjective, MaximalValue, Points, VerticesInFacets}
use Rattle.pm_types.specs.Values.{matrix, sets, whole, truth, extended, edges, lattice, counts, finite, plus_infinity, minus_infinity}
use Rattle.pm_files.specs.ValueJson.{value_text}
use lib.IntN.{pos, negsuc}

abbrev one : Ratio
one = ratio_of (pos 1) (pos 1)

abbrev minus_half : Ratio
minus_half = ratio_of (negsuc 0) (pos 2)

abbrev row : List Ratio
row = one ∷ minus_half ∷ []

pub record MatricesAreWritten : Type 0 where
  -- fractions are texts
  pub points : value_text Points (matrix 2 (row ∷ row ∷ [])) ≡ codes "[[\"1\",\"-1/2\"],[\"1\",\"-1/2\"]]"
  pub no_numbers : value_text Points (matrix 1 ((one ∷ []) ∷ [])) ≢ codes "[[1]]"
  -- the column count is written where no row tells it, and only there
  pub nothing : value_text Points (matrix 0 []) ≡ codes "[]"
  pub columns : value_text Points (matrix 3 []) ≡ codes "[{\"cols\":3}]"
  pub not_left_out : value_text Points (matrix 3 []) ≢ codes "[]"
  pub not_behind_rows : value_text Points (matrix 1 ((one ∷ []) ∷ [])) ≢ codes "[[\"1\"],{\"cols\":1}]"
  -- an objective is one row
  pub objective : value_text LinearObjective (matrix 2 (row ∷ [])) ≡ codes "[\"1\",\"-1/2\"]"
  pub no_objective : value_text LinearObjective (matrix 0 []) ≡ codes "[]"
  pub no_list_of_rows : value_text LinearObjective (matrix 2 (row ∷ [])) ≢ codes "[[\"1\",\"-1/2\"]]"

pub record SetsAreWritten : Type 0 where
  -- the column count stands behind sets
  pub in_facets : value_text VerticesInFacets (sets ((0 ∷ 2 ∷ []) ∷ [] ∷ []) 4)
      ≡ codes "[[0,2],[],{\"cols\":4}]"
  pub no_sets : value_text VerticesInFacets (sets [] 0) ≡ codes "[{\"cols\":0}]"
  pub not_alone : value_text VerticesInFacets (sets ((0 ∷ []) ∷ []) 1) ≢ codes "[[0]]"
  -- and not behind edges
  pub graph : value_text Graph (edges ((1 ∷ []) ∷ (0 ∷ []) ∷ []) 2) ≡ codes "[[1],[0]]"
  pub no_columns : value_text Graph (edges ((1 ∷ []) ∷ (0 ∷ []) ∷ []) 2) ≢ codes "[[1],[0],{\"cols\":2}]"
  -- a lattice is written rank by rank
  pub diagram : value_text HasseDiagram (lattice (([] ∷ []) ∷ ((0 ∷ []) ∷ []) ∷ [])) ≡ codes "[[[]],[[0]]]"
  pub ranks : value_text HasseDiagram (lattice (([] ∷ []) ∷ ((0 ∷ []) ∷ []) ∷ [])) ≢ codes "[[],[0]]"

pub record NumbersAreWritten : Type 0 where
  pub dimension : value_text ConeDim (whole (pos 3)) ≡ codes "3"
  pub below_nought : value_text ConeDim (whole (negsuc 0)) ≡ codes "-1"
  pub no_text : value_text ConeDim (whole (pos 3)) ≢ codes "\"3\""
  pub bounded : value_text Bounded (truth true) ≡ codes "true"
  pub unbounded : value_text Bounded (truth false) ≡ codes "false"
  pub vector : value_text FVector (counts (pos 4 ∷ negsuc 3 ∷ [])) ≡ codes "[4,-4]"
  pub no_texts : value_text FVector (counts (pos 4 ∷ [])) ≢ codes "[\"4\"]"
  pub value : value_text MaximalValue (extended (finite minus_half)) ≡ codes "\"-1/2\""
  pub above_all : value_text MaximalValue (extended plus_infinity) ≡ codes "\"inf\""
  pub below_all : value_text MaximalValue (extended minus_infinity) ≡ codes "\"-inf\""
