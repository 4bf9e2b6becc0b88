-- The laws of normal fans and face fans, and of sums.
use Rattle.std.specs.Prelude.{ℕ, suc, ◌↔◌, List, [], ◌++◌}
use Rattle.pm_vector.specs.Rows.{Row}
use Rattle.pm_geom.specs.Things.{IsPolytopeThing}
use Rattle.pm_laws_normal_fans.specs.FaceFans.{AreHull, AreOrdersOf, IsCenteredPolytope, IsFaceFan}
use Rattle.pm_laws_normal_fans.specs.Fans.{Fan, HasOneFan, IsCommonRefinement}
use Rattle.pm_laws_normal_fans.specs.NormalFans.{IsNormalFan}
use Rattle.pm_laws_normal_fans.specs.Shadows.{AreUsed, IsShadowFan, shadow_fan}
use Rattle.pm_laws_normal_fans.specs.Sums.{AreRowsOf, AreSumRows, Cone, IsInhabited, In, IsBoundedPolytope, IsSumOf, sum_rows}

-- a bounded polytope that is not empty has exactly one normal fan
abbrev pub OneNormalFan : Type 0
OneNormalFan = (m : ℕ) (P : Cone) → IsBoundedPolytope (suc m) P → HasOneFan m (IsNormalFan (suc m) (In P))

-- one with 0 inside has exactly one face fan
abbrev pub OneFaceFan : Type 0
OneFaceFan = (m : ℕ) (P : Cone) → IsCenteredPolytope (suc m) P → IsInhabited (suc m) P
    → HasOneFan m (IsFaceFan m P)

-- the facet rows that vanish at the vertices in turn, and the rows that vanish, without their first entries, are the
-- normal fan; its rays are those of the facet rows that vanish at some vertex
abbrev pub NormalFanOfFacets : Type 0
NormalFanOfFacets = (m : ℕ) (P : Cone) (V F E used : List Row) → IsBoundedPolytope (suc m) P
    → AreOrdersOf (suc m) P V F → AreHull (suc m) P E → AreUsed (suc m) F E V used →
    IsNormalFan (suc m) (In P) (shadow_fan F E V) × IsShadowFan m F E V used

-- the vertices on the facets in turn, without their first entries, are the face fan; its rays are those of the
-- vertices on some facet
abbrev pub FaceFanOfVertices : Type 0
FaceFanOfVertices = (m : ℕ) (P : Cone) (V F used : List Row) → IsCenteredPolytope (suc m) P
    → AreOrdersOf (suc m) P V F → AreUsed (suc m) V [] F used →
    IsFaceFan m P (shadow_fan V [] F) × IsShadowFan m V [] F used

-- a fan is the normal fan of the sum of two bounded polytopes exactly where it is the common refinement of their
-- normal fans (Ziegler, proposition 7.12)
abbrev pub NormalOfSum : Type 0
NormalOfSum = (m : ℕ) (P Q R : Cone) → IsBoundedPolytope (suc m) P → IsBoundedPolytope (suc m) Q
    → IsSumOf (suc m) P Q R →
    (f g h : Fan) → IsNormalFan (suc m) (In P) f → IsNormalFan (suc m) (In Q) g
    → IsNormalFan (suc m) (In R) h ↔ IsCommonRefinement m f g h

-- the point sums of generators, with the generators that are no points and the lines, generate the cone over the sum
-- of two polytopes that are not empty
abbrev pub SumIsGenerated : Type 0
SumIsGenerated = (n : ℕ) (P Q : Cone) (rows : List Row) → IsPolytopeThing n P.generators P.lines
    → IsPolytopeThing n Q.generators Q.lines → IsInhabited n P → IsInhabited n Q →
    AreSumRows n P Q rows → IsSumOf n P Q (record { generators = rows; lines = P.lines ++ Q.lines })

-- the sums of the points, with the other rows and the lines of both, generate the cone over the sum of two polytopes
-- that are not empty, bounded or not
abbrev pub SumRowsGenerate : Type 0
SumRowsGenerate = (n : ℕ) (P Q : Cone) (V K W L : List Row) → IsPolytopeThing n P.generators P.lines
    → IsPolytopeThing n Q.generators Q.lines → IsInhabited n P → IsInhabited n Q →
    AreRowsOf n P V K → AreRowsOf n Q W L
    → IsSumOf n P Q (record { generators = sum_rows V W; lines = K ++ L })
