-- Orders that are one, and objects whose orders are fixed, read on small things.
use Rattle.pm_geom.specs.Examples.{half_line, pair}
use Rattle.pm_geom.specs.Things.{Orders}
use Rattle.pm_laws_things.specs.OrderExamples.{half_line_thing}
use Rattle.pm_laws_values.specs.Objects.{HaveOneBase, RaysAreFixed}
use Rattle.pm_laws_values.specs.Orders.{AreOneOrder}
use Rattle.pm_object.specs.State.{State, empty_object}
use Rattle.pm_object.specs.declared.held.Origin.TheVariants.{Given}
use Rattle.pm_object_type.specs.declared.object_type.ObjectType.TheVariants.{Cone, Polytope}
use Rattle.pm_props.specs.declared.property.PropId.TheVariants.{NVertices, Vertices}
use Rattle.pm_props.specs.declared.property.PropId.{PropId}
use Rattle.pm_types.specs.Values.{PropertyValue, matrix, whole}
use Rattle.std.specs.Prelude.{None, [], ◌∷◌}
use lib.IntN.{pos}

-- the vertex and the ray of the half line; multiples of them; and the two in another order
abbrev pub first_rays : Orders
first_rays = record { rays = half_line; facets = half_line; cones = [] }

abbrev pub longer_rays : Orders
longer_rays = record { rays = pair 0 2 ∷ pair 3 0 ∷ []; facets = half_line; cones = [] }

abbrev pub turned_rays : Orders
turned_rays = record { rays = pair 1 0 ∷ pair 0 1 ∷ []; facets = half_line; cones = [] }

-- a polytope to which this value of the property was given
abbrev pub given_alone : PropId → PropertyValue → State
given_alone p v =
    record (empty_object Polytope) { held = record { place = None; property = p; value = v; origin = Given } ∷ [] }

pub record OneOrderIsRead : Type 0 where
  -- multiples of the rays, place by place, and not the rays in another order
  pub multiples : AreOneOrder half_line_thing first_rays longer_rays
  pub not_turned : ¬ (AreOneOrder half_line_thing first_rays turned_rays)
  -- objects of one type to which nothing was given, and not those of different types
  pub nothing_given : HaveOneBase (empty_object Polytope) (empty_object Polytope)
  pub other_type : ¬ (HaveOneBase (empty_object Polytope) (empty_object Cone))
  -- given VERTICES fix the order of the rays, a given number does not
  pub vertices : RaysAreFixed (given_alone Vertices (matrix 0 [])) (given_alone Vertices (matrix 0 [])) 1
  pub number : ¬ (RaysAreFixed (given_alone NVertices (whole (pos 2))) (given_alone NVertices (whole (pos 2))) 1)
