-- The laws of cones that this crate proves (Ziegler, Lectures on Polytopes, lectures 1 and 2).
use Rattle.std.specs.Prelude.{ℕ, ◌+◌, ◌≡◌, ◌<◌, ◌↔◌, ◌⊎◌, Bool, IsTrue, List, [], ◌++◌, length}
use Rattle.std.specs.List.{All, Contains}
use Rattle.pm_vector.specs.Rows.{Row, difference, dot, HasCols, IsZero, Same}
use Rattle.pm_vector.specs.Cones.{InCone, InSpan, IsIndependent}
use Rattle.pm_vector.specs.Bases.{IsRank, SameSpan}
use Rattle.pm_vector.specs.NullSpaces.{IsNull}
use Rattle.pm_geom.specs.Cones.{CutOut, IsValid, Vanishes, InLineality, IsOrder}
use Rattle.pm_geom.specs.Faces.{IsFace, ray}
use lib.IntN.{pos}
use lib.Signed.{◌<ℤ◌, ◌≤ℤ◌}

-- every generated cone is cut out by finitely many rows
abbrev pub GeneratedIsCut : Type 0
GeneratedIsCut = (n : ℕ) (G L : List Row) → HasCols n G → HasCols n L
    → (B : List Row) × HasCols n B × ((x : Row) → length x ≡ n → InCone G L x ↔ CutOut B x)

-- every cone that finitely many rows cut out is generated
abbrev pub CutIsGenerated : Type 0
CutIsGenerated = (n : ℕ) (A : List Row) → HasCols n A
    → (G : List Row) × HasCols n G × ((x : Row) → length x ≡ n → InCone G [] x ↔ CutOut A x)

-- whether a row is in a cone is decided
abbrev pub MembershipDecided : Type 0
MembershipDecided = (n : ℕ) (G L : List Row) → HasCols n G → HasCols n L → (x : Row) → length x ≡ n
    → InCone G L x ⊎ ¬ (InCone G L x)

-- Farkas: a row outside of a cone has a negative product with a row that is valid on it
abbrev pub Farkas : Type 0
Farkas = (n : ℕ) (G L : List Row) → HasCols n G → HasCols n L → (x : Row) → length x ≡ n → ¬ (InCone G L x)
    → (a : Row) × IsValid n G L a × (dot a x <ℤ pos 0)

-- the bipolar theorem: the valid rows cut out the cone
abbrev pub Bipolar : Type 0
Bipolar = (n : ℕ) (G L : List Row) → HasCols n G → HasCols n L → (x : Row) → length x ≡ n
    → ((a : Row) → IsValid n G L a → pos 0 ≤ℤ dot a x) → InCone G L x

-- there is an order of the extreme rays; with rows that span the lineality it generates the cone
abbrev pub ExtremesGenerate : Type 0
ExtremesGenerate = (n : ℕ) (G L : List Row) → HasCols n G → HasCols n L →
    (V : List Row) × (K : List Row) × HasCols n K × IsOrder n (InCone G L) V
    × ((x : Row) → length x ≡ n → InLineality (InCone G L) x ↔ InSpan K x)
    × ((x : Row) → length x ≡ n → InCone G L x ↔ InCone V K x)

-- any order V of the extreme rays, with any rows K that span the lineality, generates the cone
abbrev pub OrderGenerates : Type 0
OrderGenerates = (n : ℕ) (G L : List Row) → HasCols n G → HasCols n L → (V K : List Row) → HasCols n K
    → IsOrder n (InCone G L) V →
    ((x : Row) → length x ≡ n → InLineality (InCone G L) x ↔ InSpan K x) → (x : Row) → length x ≡ n
    → InCone G L x ↔ InCone V K x

-- there is an order of the facet rows; with rows that span those that vanish it generates the valid rows and cuts out
-- the cone
abbrev pub FacetRowsCutOut : Type 0
FacetRowsCutOut = (n : ℕ) (G L : List Row) → HasCols n G → HasCols n L →
    (F : List Row) × (E : List Row) × HasCols n E × IsOrder n (IsValid n G L) F
    × ((a : Row) → length a ≡ n → Vanishes n G L a ↔ InSpan E a)
    × ((a : Row) → length a ≡ n → IsValid n G L a ↔ InCone F E a)
    × ((x : Row) → length x ≡ n → InCone G L x ↔ (CutOut F x × All (λ e. dot e x ≡ pos 0) E))

-- a face is an intersection of facets, and such intersections are faces
abbrev pub FaceOfFacets : Type 0
FaceOfFacets = (n : ℕ) (G L : List Row) → HasCols n G → HasCols n L → (V F : List Row)
    → IsOrder n (InCone G L) V → IsOrder n (IsValid n G L) F → (f : ℕ → Bool) →
    IsFace n G L V f
    ↔ ((J : List Row) × ((b : Row) → Contains J b → Contains F b)
    × ((j : ℕ) → j < length V → IsTrue (f j) ↔ All (λ b. dot b (ray V j) ≡ pos 0) J))

-- the rows that generators and lines span are the differences of two rows of the cone
abbrev pub SpanIsDifferences : Type 0
SpanIsDifferences = (G L : List Row) (x : Row)
    → InSpan (G ++ L) x
    ↔ ((u : Row) × (v : Row) × InCone G L u × InCone G L v × Same x (difference (pos 1) u (pos 1) v))

-- rows that generate a cone have its span
abbrev pub GeneratorsSpan : Type 0
GeneratorsSpan = (n : ℕ) (G L : List Row) → HasCols n G → HasCols n L → (P K : List Row) → HasCols n P
    → HasCols n K → ((x : Row) → length x ≡ n → InCone G L x ↔ InCone P K x) → SameSpan (P ++ K) (G ++ L)

-- any order of the extreme rays, with any rows that span the lineality, has the span of the cone
abbrev pub OrderSpans : Type 0
OrderSpans = (n : ℕ) (G L : List Row) → HasCols n G → HasCols n L → (V K : List Row) → HasCols n K
    → IsOrder n (InCone G L) V →
    ((x : Row) → length x ≡ n → InLineality (InCone G L) x ↔ InSpan K x) → SameSpan (V ++ K) (G ++ L)

-- a row vanishes on a cone exactly where its product with each row of a list with the span of the cone is 0
abbrev pub VanishingIsNull : Type 0
VanishingIsNull = (n : ℕ) (G L : List Row) → HasCols n G → HasCols n L → (X : List Row) → SameSpan X (G ++ L)
    → (a : Row) → length a ≡ n → Vanishes n G L a ↔ IsNull X a

-- any order F of the facet rows, with any rows E that span those that vanish, generates the valid rows and cuts out
-- the cone
abbrev pub FacetOrderCutsOut : Type 0
FacetOrderCutsOut = (n : ℕ) (G L : List Row) → HasCols n G → HasCols n L → (F E : List Row) → HasCols n E
    → IsOrder n (IsValid n G L) F → ((a : Row) → length a ≡ n → Vanishes n G L a ↔ InSpan E a) →
    ((a : Row) → length a ≡ n → IsValid n G L a ↔ InCone F E a)
    × ((x : Row) → length x ≡ n → InCone G L x ↔ (CutOut F x × All (λ e. dot e x ≡ pos 0) E))

-- a row is in the lineality exactly where its product with each row of such an F, or of a list X with the span of F
-- and E, is 0
abbrev pub LinealityIsNull : Type 0
LinealityIsNull = (n : ℕ) (G L : List Row) → HasCols n G → HasCols n L → (F E : List Row) → HasCols n E
    → IsOrder n (IsValid n G L) F → ((a : Row) → length a ≡ n → Vanishes n G L a ↔ InSpan E a) →
    (X : List Row) → SameSpan X (F ++ E) → (x : Row) → length x ≡ n → InLineality (InCone G L) x ↔ IsNull X x

-- rows of n entries have a rank
abbrev pub RankExists : Type 0
RankExists = (n : ℕ) (X : List Row) → HasCols n X → (k : ℕ) × IsRank X k

-- the dimension of the span of a cone is n less the number of rows of a basis of those that vanish
abbrev pub RankIsLeft : Type 0
RankIsLeft = (n : ℕ) (G L : List Row) → HasCols n G → HasCols n L → (E : List Row) → HasCols n E
    → IsIndependent E → ((a : Row) → length a ≡ n → Vanishes n G L a ↔ InSpan E a) → (d : ℕ)
    → IsRank (G ++ L) d ↔ (length E + d ≡ n)

-- a cone is not {0} exactly where the dimension of its span is not 0
abbrev pub NotZeroByRank : Type 0
NotZeroByRank = (n : ℕ) (G L : List Row) → HasCols n G → HasCols n L → (d : ℕ) → IsRank (G ++ L) d
    → ((x : Row) × (length x ≡ n) × InCone G L x × ¬ (IsZero x)) ↔ ¬ (d ≡ 0)
