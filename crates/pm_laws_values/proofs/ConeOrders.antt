-- The orders of a cone or polytope are those of a cone.
use Rattle.pm_geom.specs.Things.{AreConeOrders, Orders}
use Rattle.pm_object_type.specs.declared.object_type.ObjectType.TheVariants.{Cone, Fan, Polytope}
use Rattle.pm_object_type.specs.declared.object_type.ObjectType.{ObjectType}
use Rattle.pm_types.specs.Things.{AreOrdersOf}
use Rattle.pm_vector.specs.Rows.{Row}
use Rattle.std.proofs.Common.{refl}
use Rattle.std.specs.Prelude.{List, ℕ, ◌≡◌}

pub cone_orders : (of : ObjectType) → ¬ (of ≡ Fan) → (n : ℕ) (G L : List Row) (Gs : List (List Row)) (o : Orders) → AreOrdersOf of n G L Gs o → AreConeOrders n G L o
cone_orders Polytope other n G L Gs o a = a
cone_orders Cone other n G L Gs o a = a
cone_orders Fan other n G L Gs o a = absurd (other refl)
