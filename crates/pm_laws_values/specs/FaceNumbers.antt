-- The numbers of faces are the same in every order of the rays.
use Rattle.std.specs.Prelude.{◌≡◌, ℕ, List}
use Rattle.pm_geom.specs.FaceCounts.{f2_of, f_of}
use Rattle.pm_geom.specs.Things.{Orders}
use Rattle.pm_object_type.specs.declared.object_type.ObjectType.TheVariants.{Fan}
use Rattle.pm_types.specs.Right.{AreFaces}
use Rattle.pm_types.specs.Things.{AreOrders, IsThing, Thing}

-- the faces of a cone or polytope in two orders of its rays have the same f-vector, and the same flag numbers of two
-- ranks
abbrev pub FaceNumbersAreOne : Type 0
FaceNumbersAreOne = (t : Thing) → IsThing t → ¬ (t.of ≡ Fan) → (o q : Orders) → AreOrders t o → AreOrders t q
    → (ranks others : List (List (List ℕ))) → AreFaces t o.rays ranks → AreFaces t q.rays others
    → (f_of ranks ≡ f_of others) × (f2_of ranks ≡ f2_of others)
