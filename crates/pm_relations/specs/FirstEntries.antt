-- How first entries tell whether a polytope is bounded, which of its rays are far, and whether 0 is in its interior.
use Rattle.std.specs.Prelude.{ℕ, ◌≡◌, ◌<◌, ◌↔◌, IsTrue, Bool, List, [], length, map}
use Rattle.std.specs.List.{All, AllPairs, Contains, slice_index_or}
use Rattle.pm_vector.specs.Numbers.{Ratio}
use Rattle.pm_vector.specs.Rows.{ratio_at}
use Rattle.pm_types.specs.Things.{Thing, IsThing, AreOrders}
use Rattle.pm_geom.specs.Things.{Orders}
use Rattle.pm_object_type.specs.declared.object_type.ObjectType.TheVariants.{Fan, Polytope}
use Rattle.pm_types.specs.Right.{Right}
use Rattle.pm_types.specs.Values.{matrix, truth, counts}
use Rattle.pm_props.specs.declared.property.PropId.TheVariants.{Vertices, LinealitySpace, Facets, AffineHull, Bounded, FarFace, Centered}
use lib.IntN.{pos}
use lib.Signed.{◌<ℤ◌}

-- the first entry of a row of fractions is positive
abbrev pub HasPositiveFirst : List Ratio → Type 0
HasPositiveFirst r = pos 0 <ℤ (ratio_at r 0).num

-- the first entry of a row of fractions is 0
abbrev pub HasZeroFirst : List Ratio → Type 0
HasZeroFirst r = (ratio_at r 0).num ≡ pos 0

-- a polytope is bounded where its right LINEALITY_SPACE has no row and each row of its right VERTICES has a positive
-- first entry, and only there
abbrev pub BoundedIsFound : Type 0
BoundedIsFound = (t : Thing) (o : Orders) → IsThing t → AreOrders t o → t.of ≡ Polytope
    → (n m : ℕ) (rays lines : List (List Ratio)) (b : Bool) (c d e : List Ratio)
    → Right Vertices (matrix n rays) t o c → Right LinealitySpace (matrix m lines) t o d
    → (IsTrue b ↔ ((lines ≡ []) × All HasPositiveFirst rays)) → Right Bounded (truth b) t o e

-- the places, ascending, of the rows of right VERTICES whose first entry is 0 are the far face of a polytope
abbrev pub FarFaceIsFound : Type 0
FarFaceIsFound = (t : Thing) (o : Orders) → IsThing t → AreOrders t o → t.of ≡ Polytope
    → (n : ℕ) (rays : List (List Ratio)) (js : List ℕ) (c d : List Ratio)
    → Right Vertices (matrix n rays) t o c → AllPairs (λ i j. i < j) js
    → ((j : ℕ) → Contains js j ↔ ((j < length rays) × HasZeroFirst (slice_index_or rays j [])))
    → Right FarFace (counts (map pos js)) t o d

-- a thing is centered where each row of its right AFFINE_HULL has the first entry 0 and each row of its right FACETS
-- a positive one, and only there
abbrev pub CenteredIsFound : Type 0
CenteredIsFound = (t : Thing) (o : Orders) → IsThing t → AreOrders t o → ¬ (t.of ≡ Fan)
    → (n m : ℕ) (facets hull : List (List Ratio)) (b : Bool) (c d e : List Ratio)
    → Right Facets (matrix n facets) t o c → Right AffineHull (matrix m hull) t o d
    → (IsTrue b ↔ (All HasZeroFirst hull × All HasPositiveFirst facets)) → Right Centered (truth b) t o e
