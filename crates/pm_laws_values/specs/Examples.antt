-- Properties that have two values, and what a value is where it has one.
use Rattle.pm_geom.specs.Examples.{triple}
use Rattle.pm_geom.specs.Things.{Orders}
use Rattle.pm_laws_values.specs.OneValue.{IsAnswer, is_asked, is_determined}
use Rattle.pm_object_type.specs.declared.object_type.ObjectType.TheVariants.{Cone, Polytope}
use Rattle.pm_props.specs.declared.kind.Kind.{Kind}
use Rattle.pm_props.specs.declared.property.PropId.{PropId}
use Rattle.pm_props.specs.declared.property.PropId.TheVariants.{MaximalDual, MaximalValue, PlacingTriangulation, Vertices}
use Rattle.pm_types.specs.Things.{AreOrders, IsThing, Thing}
use Rattle.pm_types.specs.Values.{PropertyValue}
use Rattle.pm_types.specs.Views.{ratios}
use Rattle.pm_vector.specs.Numbers.{Ratio}
use Rattle.pm_vector.specs.Rows.{Row}
use Rattle.std.specs.Prelude.{IsTrue, List, [], ℕ, ◌∷◌, ◌≡◌}
use lib.IntN.{negsuc, pos}

-- the segment from (0, 0) to (1, 0) in the plane, as a polytope, and the objective x1
abbrev pub segment_thing : Thing
segment_thing = record {
  of = Polytope;
  cols = 3;
  generators = triple 1 0 0 ∷ triple 1 1 0 ∷ [];
  lines = [];
  cones = [];
  objective = λ s. ratios (triple 0 1 0);
  sites = [];
  heights = [];
}

-- the facet row x1 <= 1, with s times the row that vanishes
abbrev pub end_row : ℕ → Row
end_row s = pos 1 ∷ negsuc 0 ∷ pos s ∷ []

-- clients of this kind may answer two values of p for one thing in the same orders, with one objective
pub record HasTwoValues (kind : Kind) (p : PropId) : Type 0 where
  pub t : Thing
  pub thing : IsThing t
  pub asked : IsTrue (is_asked t.of p)
  pub o : Orders
  pub orders : AreOrders t o
  pub c : List Ratio
  pub v : PropertyValue
  pub w : PropertyValue
  pub first : IsAnswer kind p v t o c
  pub second : IsAnswer kind p w t o c
  pub differ : ¬ (v ≡ w)

pub record TwoValuesAreRead : Type 0 where
  -- a triangulation may have faces of its cells as cells too
  pub placing : (kind : Kind) → HasTwoValues kind PlacingTriangulation
  -- a row of a dual is a facet row up to rows that vanish
  pub dual : (kind : Kind) → HasTwoValues kind MaximalDual
  -- VERTICES are determined, duals are not
  pub vertices : IsTrue (is_determined Vertices)
  pub not_dual : ¬ (IsTrue (is_determined MaximalDual))
  -- linear programs are asked of polytopes alone
  pub program : IsTrue (is_asked Polytope MaximalValue)
  pub of_cones : ¬ (IsTrue (is_asked Cone MaximalValue))
