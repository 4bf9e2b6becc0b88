-- The laws of ranks and graphs of a cone: cone(G) + span(L), with an order V of its extreme rays and an order F of
-- its facet rows (Ziegler, Lectures on Polytopes, lectures 2 and 3).
use Rattle.pm_vector.specs.Cones.{InCone, InSpan}
use Rattle.pm_vector.specs.Rows.{HasCols, Row, dot}
use Rattle.pm_vector.specs.Bases.{IsRank}
use Rattle.pm_geom.specs.Cones.{InLineality, IsOrder, IsValid}
use Rattle.pm_geom.specs.FaceCounts.{IsHasseDiagram, f_of}
use Rattle.pm_geom.specs.Faces.{HasRank, IsFace, IsStrictlyIn, ray}
use Rattle.pm_geom.specs.Graphs.{IsDiameter, IsEdge, IsGraph, IsRidge, IsWalk}
use Rattle.pm_ranks.specs.Chosen.{chosen}
use Rattle.pm_ranks.specs.Thirds.{NoThirdFacet, NoThirdRay}
use Rattle.std.specs.Prelude.{ℕ, suc, ◌+◌, ◌++◌, ◌<◌, ◌≡◌, ◌↔◌, ◌⊎◌, Bool, IsTrue, true, List, length}
use lib.IntN.{pos}

-- a face has rank k exactly where its rays, with rows K that span the lineality, span k dimensions more than K
-- (Ziegler, theorem 2.7)
abbrev pub RanksAreDimensions : Type 0
RanksAreDimensions = (n : ℕ) (G L : List Row) → HasCols n G → HasCols n L → (V K : List Row) → HasCols n K
    → IsOrder n (InCone G L) V →
    ((x : Row) → length x ≡ n → InLineality (InCone G L) x ↔ InSpan K x) → (l : ℕ) → IsRank K l →
    (f : ℕ → Bool) → IsFace n G L V f → (k : ℕ) → HasRank n G L V f k ↔ IsRank (chosen f V ++ K) (k + l)

-- the rank of the whole is the dimension of the cone's span less that of its lineality
abbrev pub WholeHasRank : Type 0
WholeHasRank = (n : ℕ) (G L : List Row) → HasCols n G → HasCols n L → (V K : List Row) → HasCols n K
    → IsOrder n (InCone G L) V →
    ((x : Row) → length x ≡ n → InLineality (InCone G L) x ↔ InSpan K x) → (l : ℕ) → IsRank K l →
    (k : ℕ) → HasRank n G L V (λ j. true) k ↔ IsRank (G ++ L) (k + l)

-- each face has a rank
abbrev pub EachHasRank : Type 0
EachHasRank = (n : ℕ) (G L : List Row) → HasCols n G → HasCols n L → (V : List Row)
    → IsOrder n (InCone G L) V →
    (f : ℕ → Bool) → IsFace n G L V f → (k : ℕ) × HasRank n G L V f k

-- each face of rank k + 1 has strictly in it a face of rank k
abbrev pub RanksDescend : Type 0
RanksDescend = (n : ℕ) (G L V : List Row) (f : ℕ → Bool) (k : ℕ) → HasRank n G L V f (suc k)
    → (g : ℕ → Bool) × IsStrictlyIn (length V) g f × HasRank n G L V g k

-- a face strictly in another has a smaller rank
abbrev pub RanksRise : Type 0
RanksRise = (n : ℕ) (G L V : List Row) (f g : ℕ → Bool) (k t : ℕ) → HasRank n G L V f k → HasRank n G L V g t
    → IsStrictlyIn (length V) f g → k < t

-- the faces of rank 1 are the single rays
abbrev pub FirstRank : Type 0
FirstRank = (n : ℕ) (G L : List Row) → HasCols n G → HasCols n L → (V : List Row)
    → IsOrder n (InCone G L) V →
    (f : ℕ → Bool)
    → HasRank n G L V f 1
    ↔ ((i : ℕ) × (i < length V) × ((x : ℕ) → x < length V → IsTrue (f x) ↔ (x ≡ i)))

-- the faces of rank 2 are the faces of two rays
abbrev pub SecondRank : Type 0
SecondRank = (n : ℕ) (G L : List Row) → HasCols n G → HasCols n L → (V : List Row)
    → IsOrder n (InCone G L) V →
    (f : ℕ → Bool)
    → HasRank n G L V f 2
    ↔ (IsFace n G L V f × ((i : ℕ) × (j : ℕ) × (i < length V) × (j < length V) × ¬ (i ≡ j)
    × ((x : ℕ) → x < length V → IsTrue (f x) ↔ ((x ≡ i) ⊎ (x ≡ j)))))

-- the faces of rank 1 less than the whole are the facets
abbrev pub FacetsAreHighest : Type 0
FacetsAreHighest = (n : ℕ) (G L : List Row) → HasCols n G → HasCols n L → (V F : List Row)
    → IsOrder n (InCone G L) V → IsOrder n (IsValid n G L) F →
    (k : ℕ) → HasRank n G L V (λ j. true) (suc k) →
    (f : ℕ → Bool)
    → HasRank n G L V f k
    ↔ ((i : ℕ) × (i < length F) × ((j : ℕ) → j < length V
    → IsTrue (f j) ↔ (dot (ray F i) (ray V j) ≡ pos 0)))

-- no facet has all rays of another
abbrev pub FacetsDiffer : Type 0
FacetsDiffer = (n : ℕ) (G L : List Row) → HasCols n G → HasCols n L → (V F : List Row)
    → IsOrder n (InCone G L) V → IsOrder n (IsValid n G L) F →
    (i k : ℕ) → i < length F → k < length F
    → ((j : ℕ) → j < length V → dot (ray F i) (ray V j) ≡ pos 0 → dot (ray F k) (ray V j) ≡ pos 0)
    → i ≡ k

-- two different rays are an edge exactly where no third ray lies in each facet in which both lie
abbrev pub EdgesByFacets : Type 0
EdgesByFacets = (n : ℕ) (G L : List Row) → HasCols n G → HasCols n L → (V F : List Row)
    → IsOrder n (InCone G L) V → IsOrder n (IsValid n G L) F →
    (i j : ℕ) → IsEdge n G L V i j ↔ ((i < length V) × (j < length V) × ¬ (i ≡ j) × NoThirdRay V F i j)

-- two different facets meet in a ridge exactly where no third facet holds all rays that they share
abbrev pub RidgesByFacets : Type 0
RidgesByFacets = (n : ℕ) (G L : List Row) → HasCols n G → HasCols n L → (V F : List Row)
    → IsOrder n (InCone G L) V → IsOrder n (IsValid n G L) F →
    (i k : ℕ) → IsRidge n G L V F i k ↔ ((i < length F) × (k < length F) × ¬ (i ≡ k) × NoThirdFacet V F i k)

-- edges join any two rays, fewer of them than there are rays
abbrev pub GraphIsConnected : Type 0
GraphIsConnected = (n : ℕ) (G L : List Row) → HasCols n G → HasCols n L → (V : List Row)
    → IsOrder n (InCone G L) V →
    (i j : ℕ) → i < length V → j < length V → (k : ℕ) × (k < length V) × IsWalk (IsEdge n G L V) i j k

-- ridges join any two facets, fewer of them than there are facets
abbrev pub DualGraphIsConnected : Type 0
DualGraphIsConnected = (n : ℕ) (G L : List Row) → HasCols n G → HasCols n L → (V F : List Row)
    → IsOrder n (InCone G L) V → IsOrder n (IsValid n G L) F →
    (i j : ℕ) → i < length F → j < length F → (k : ℕ) × (k < length F) × IsWalk (IsRidge n G L V F) i j k

-- the graph of the rays has a diameter
abbrev pub GraphHasDiameter : Type 0
GraphHasDiameter = (n : ℕ) (G L : List Row) → HasCols n G → HasCols n L → (V : List Row)
    → IsOrder n (InCone G L) V →
    (rows : List (List ℕ)) → IsGraph (length V) (IsEdge n G L V) rows
    → (k : ℕ) × IsDiameter (length V) (IsEdge n G L V) k

-- and so has that of the facets
abbrev pub DualGraphHasDiameter : Type 0
DualGraphHasDiameter = (n : ℕ) (G L : List Row) → HasCols n G → HasCols n L → (V F : List Row)
    → IsOrder n (InCone G L) V → IsOrder n (IsValid n G L) F →
    (rows : List (List ℕ)) → IsGraph (length F) (IsRidge n G L V F) rows
    → (k : ℕ) × IsDiameter (length F) (IsRidge n G L V F) k

-- a list of all faces by rank ends at the rank of the whole
abbrev pub DiagramsEndAtWhole : Type 0
DiagramsEndAtWhole = (n : ℕ) (G L V : List Row) (ranks : List (List (List ℕ)))
    → IsHasseDiagram n G L V ranks →
    (t : ℕ) → HasRank n G L V (λ j. true) t → length ranks ≡ suc t

-- where the whole has rank d + 1, as for a polytope of dimension d, an f-vector has d entries
abbrev pub FVectorsHaveDimension : Type 0
FVectorsHaveDimension = (n : ℕ) (G L V : List Row) (ranks : List (List (List ℕ)))
    → IsHasseDiagram n G L V ranks →
    (d : ℕ) → HasRank n G L V (λ j. true) (suc d) → length (f_of ranks) ≡ d
