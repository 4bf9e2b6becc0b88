-- The unit square with its vertices in the order (1,0,0), (1,0,1), (1,1,0), (1,1,1) and its edges in the order x1 >=
-- 0, x2 >= 0, x2 <= 1, x1 <= 1, and the empty polytope: which values are right.
use Rattle.std.specs.Prelude.{ℕ, List, [], ◌∷◌, false, true}
use Rattle.pm_vector.specs.Numbers.{Ratio}
use Rattle.pm_geom.specs.Examples.{square, edges}
use Rattle.pm_types.specs.Things.{Thing, IsThing, AreOrders}
use Rattle.pm_geom.specs.Things.{Orders}
use Rattle.pm_object_type.specs.declared.object_type.ObjectType.TheVariants.{Polytope}
use Rattle.pm_types.specs.Right.{Right}
use Rattle.pm_types.specs.Values.{sets, truth, whole}
use Rattle.pm_props.specs.declared.property.PropId.TheVariants.{VerticesInFacets, ConeDim, LinealityDim, CombinatorialDim, FullDim}
use lib.IntN.{ℤ, pos, negsuc}

abbrev pub whole_ratio : ℤ → Ratio
whole_ratio k = record { num = k; den = pos 1 }

abbrev pub square_thing : Thing
square_thing = record {
  of = Polytope;
  cols = 3;
  generators = square;
  lines = [];
  cones = [];
  objective = λ s. whole_ratio (pos 0) ∷ whole_ratio (pos 0) ∷ whole_ratio (pos 0) ∷ [];
  sites = [];
  heights = [];
}

abbrev pub square_orders : Orders
square_orders = record { rays = square; facets = edges; cones = [] }

abbrev pub square_sets : List (List ℕ)
square_sets = (0 ∷ 1 ∷ []) ∷ (0 ∷ 2 ∷ []) ∷ (1 ∷ 3 ∷ []) ∷ (2 ∷ 3 ∷ []) ∷ []

abbrev pub changed_sets : List (List ℕ)
changed_sets = (0 ∷ 1 ∷ []) ∷ (0 ∷ 3 ∷ []) ∷ (1 ∷ 3 ∷ []) ∷ (2 ∷ 3 ∷ []) ∷ []

-- the sets of vertices on the edges are right, and with one index changed, or with another column count, they are not
pub record SquareSetsAreRead : Type 0 where
  pub thing : IsThing square_thing
  pub orders : AreOrders square_thing square_orders
  pub right : Right VerticesInFacets (sets square_sets 4) square_thing square_orders []
  pub changed : ¬ (Right VerticesInFacets (sets changed_sets 4) square_thing square_orders [])
  pub more_columns : ¬ (Right VerticesInFacets (sets square_sets 5) square_thing square_orders [])

-- the square has dimension 2: its cone spans the space and has no lineality
pub record SquareDimensionsAreRead : Type 0 where
  pub cone_dim : Right ConeDim (whole (pos 3)) square_thing square_orders []
  pub lineality_dim : Right LinealityDim (whole (pos 0)) square_thing square_orders []
  pub combinatorial_dim : Right CombinatorialDim (whole (pos 2)) square_thing square_orders []
  pub full_dim : Right FullDim (truth true) square_thing square_orders []
  pub no_plane : ¬ (Right ConeDim (whole (pos 2)) square_thing square_orders [])
  pub no_line : ¬ (Right LinealityDim (whole (pos 1)) square_thing square_orders [])
  pub no_solid : ¬ (Right CombinatorialDim (whole (pos 3)) square_thing square_orders [])
  pub not_flat : ¬ (Right FullDim (truth false) square_thing square_orders [])

abbrev pub empty_thing : Thing
empty_thing = record {
  of = Polytope;
  cols = 2;
  generators = [];
  lines = [];
  cones = [];
  objective = λ s. whole_ratio (pos 0) ∷ whole_ratio (pos 0) ∷ [];
  sites = [];
  heights = [];
}

abbrev pub no_orders : Orders
no_orders = record { rays = []; facets = []; cones = [] }

-- the empty polytope has dimension -1
pub record EmptyDimensionsAreRead : Type 0 where
  pub thing : IsThing empty_thing
  pub cone_dim : Right ConeDim (whole (pos 0)) empty_thing no_orders []
  pub combinatorial_dim : Right CombinatorialDim (whole (negsuc 0)) empty_thing no_orders []
  pub full_dim : Right FullDim (truth false) empty_thing no_orders []
