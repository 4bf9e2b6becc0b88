-- The common refinement as it is computed: intersections of two cones by their extreme rays in canonical form, of
-- which the maximal ones are kept.
use Rattle.std.specs.Prelude.{ℕ, ◌≡◌, ◌<◌, ◌↔◌, ◌⊎◌, Bool, true, false, List, [], ◌∷◌, ◌++◌, filter, length, map}
use Rattle.std.specs.List.{All, AllPairs, Any, Contains, range_with_len}
use Rattle.pm_vector.specs.Rows.{Row}
use Rattle.pm_vector.specs.NullSpaces.{IsNull}
use Rattle.pm_geom.specs.Cones.{CutOut, IsExtremeRay, IsValid}
use Rattle.pm_geom.specs.Faces.{ray}
use Rattle.pm_geom.specs.Generators.{AreGenerators, IsBefore}
use Rattle.pm_geom.specs.Things.{AreFanOrders}
use Rattle.pm_laws_normal_fans.specs.Fans.{Fan, InIntersection, InPlace, IsCommonRefinement, IsFan, IsIntersectionWithin, IsMaximalIntersection, IsSameFan, cone_at}

-- the places of two cones, and the extreme rays of their intersection
pub record Intersection : Type 0 where
  pub first : ℕ
  pub second : ℕ
  pub rays : List Row

-- the rays, with the lines K, are the generators of that intersection in canonical form
pub record IsIntersection (n : ℕ) (f g : Fan) (K : List Row) (a : Intersection) : Type 0 where
  pub first : a.first < length f.cones
  pub second : a.second < length g.cones
  pub generators : AreGenerators n (InIntersection f g a.first a.second) a.rays K

-- a is included in b
abbrev pub IsWithin : ℕ → Fan → Fan → Intersection → Intersection → Type 0
IsWithin n f g a b = IsIntersectionWithin n f g a.first a.second b.first b.second

-- the pair of places of a comes before that of b
abbrev pub IsEarlier : Intersection → Intersection → Type 0
IsEarlier a b = (a.first < b.first) ⊎ ((a.first ≡ b.first) × (a.second < b.second))

-- one intersection for each pair of a cone of f and a cone of g, in order
pub record AreAllIntersections (n : ℕ) (f g : Fan) (K : List Row) (listed : List Intersection) : Type 0 where
  pub each : All (IsIntersection n f g K) listed
  pub all : (i j : ℕ) → i < length f.cones → j < length g.cones
      → Any (λ a. (a.first ≡ i) × (a.second ≡ j)) listed
  pub ordered : AllPairs IsEarlier listed

-- some of the listed are kept, in order: each listed one is included in a kept one, which is not a later one that is
-- equal; and no kept one is included in another
pub record AreKeptIntersections (n : ℕ) (f g : Fan) (listed kept : List Intersection) : Type 0 where
  pub some : All (Contains listed) kept
  pub cover : All (λ b. Any (λ a. IsWithin n f g b a × (IsWithin n f g a b → ¬ (IsEarlier b a))) kept) listed
  pub once : AllPairs (λ a b. IsEarlier a b × ¬ (IsWithin n f g a b) × ¬ (IsWithin n f g b a)) kept

-- the fan of these intersections
abbrev pub fan_of : List Intersection → List Row → Fan
fan_of kept K = record { cones = map (λ a. a.rays) kept; lines = K }

-- the rows of R are all their rays, each once, in lexicographic order
pub record AreAllRays (kept : List Intersection) (R : List Row) : Type 0 where
  pub each : All (λ r. Any (λ a. Contains a.rays r) kept) R
  pub all : All (λ a. All (λ r. Contains R r) a.rays) kept
  pub ascending : AllPairs IsBefore R

-- ---- what is kept is the common refinement
-- the kept intersections are maximal, their fan is the common refinement, and it is the only one
pub record IsRefined (n : ℕ) (f g : Fan) (K : List Row) (kept : List Intersection) : Type 0 where
  pub maximal : All (λ a. IsMaximalIntersection n f g a.first a.second) kept
  pub fan : IsFan n (fan_of kept K)
  pub refinement : IsCommonRefinement n f g (fan_of kept K)
  pub only : (h : Fan) → IsFan n h → IsCommonRefinement n f g h → IsSameFan n (fan_of kept K) h

abbrev pub KeptAreRefinement : Type 0
KeptAreRefinement = (n : ℕ) (f g : Fan) (K : List Row) (listed kept : List Intersection) → IsFan n f
    → IsFan n g → AreAllIntersections n f g K listed → AreKeptIntersections n f g listed kept →
    (listed ≡ [] → K ≡ []) → IsRefined n f g K kept

-- the rays are orders of that fan, and a row of R is a ray of one of its cones exactly where it stands among the
-- cone's rays
pub record HasRefinedRays (n : ℕ) (f g : Fan) (K : List Row) (kept : List Intersection) (R : List Row)
    : Type 0 where
  pub orders : AreFanOrders n (fan_of kept K).cones K
      (record { rays = R; facets = []; cones = range_with_len 0 (length kept) })
  pub rays : All (λ a. (j : ℕ) → j < length R → IsExtremeRay n a.rays K (ray R j)
      ↔ Contains a.rays (ray R j)) kept

abbrev pub RefinedRaysAreOrders : Type 0
RefinedRaysAreOrders = (n : ℕ) (f g : Fan) (K : List Row) (listed kept : List Intersection) (R : List Row)
    → IsFan n f → IsFan n g → AreAllIntersections n f g K listed → AreKeptIntersections n f g listed kept →
    AreAllRays kept R → HasRefinedRays n f g K kept R

-- the common refinement depends on the cones of the two fans alone, and not on their places and generators
abbrev pub RefinementOfSame : Type 0
RefinementOfSame = (n : ℕ) (f g f' g' h : Fan) → IsSameFan n f f' → IsSameFan n g g'
    → IsCommonRefinement n f g h → IsCommonRefinement n f' g' h

-- ---- intersections by rows
-- x has no negative product with a row of F, and the product 0 with each of E
abbrev pub InHalfSpaces : List Row → List Row → Row → Type 0
InHalfSpaces F E x = IsNull E x × CutOut F x

-- these rows cut out the cone at place i
abbrev pub IsCutAt : ℕ → Fan → ℕ → List Row → List Row → Type 0
IsCutAt n f i F E = (x : Row) → length x ≡ n → InPlace f i x ↔ InHalfSpaces F E x

-- the facet rows of a cone in canonical form, and the echelon basis of the rows that vanish on it, cut it out
abbrev pub CutsFromFacets : Type 0
CutsFromFacets = (n : ℕ) (f : Fan) (i : ℕ) (F E : List Row) → IsFan n f → i < length f.cones
    → AreGenerators n (IsValid n (cone_at f i) f.lines) F E → IsCutAt n f i F E

-- whether an intersection is included in another is told by the products of its rays with rows that cut out the two
-- cones of the other
abbrev pub InclusionByProducts : Type 0
InclusionByProducts = (n : ℕ) (f g : Fan) (K : List Row) (a b : Intersection) (F E H D : List Row)
    → IsFan n f → IsFan n g → IsIntersection n f g K a → IsIntersection n f g K b →
    IsCutAt n f b.first F E → IsCutAt n g b.second H D
    → IsWithin n f g a b ↔ (All (InHalfSpaces F E) a.rays × All (InHalfSpaces H D) a.rays)

-- all intersections have one echelon basis of their lineality
abbrev pub OneLineality : Type 0
OneLineality = (n : ℕ) (f g : Fan) (K L : List Row) (a b : Intersection) → IsFan n f → IsFan n g
    → IsIntersection n f g K a → IsIntersection n f g L b → K ≡ L

-- ---- keeping them one after another
-- c, which comes after all that were seen, is left out where it is included in a kept one
abbrev pub KeptWithout : Type 0
KeptWithout = (n : ℕ) (f g : Fan) (seen kept : List Intersection) (c : Intersection)
    → AreKeptIntersections n f g seen kept → All (λ b. IsEarlier b c) seen →
    Any (IsWithin n f g c) kept → AreKeptIntersections n f g (seen ++ c ∷ []) kept

-- a test of the kept ones that holds exactly for those that are not included in c
pub record Tells (n : ℕ) (f g : Fan) (c : Intersection) (kept : List Intersection) (stays : Intersection
    → Bool) : Type 0 where
  pub yes : All (λ a. stays a ≡ true → ¬ (IsWithin n f g a c)) kept
  pub no : All (λ a. stays a ≡ false → IsWithin n f g a c) kept

-- else c is kept, and those that are included in it are let go
abbrev pub KeptWith : Type 0
KeptWith = (n : ℕ) (f g : Fan) (seen kept : List Intersection) (c : Intersection) (stays : Intersection
    → Bool) → AreKeptIntersections n f g seen kept → All (λ b. IsEarlier b c) seen →
    ¬ (Any (IsWithin n f g c) kept) → Tells n f g c kept stays
    → AreKeptIntersections n f g (seen ++ c ∷ []) (filter stays kept ++ c ∷ [])
