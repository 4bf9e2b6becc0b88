-- What refusals show of two fans.
use Rattle.pm_vector.specs.Rows.{Row}
use Rattle.pm_dd.specs.declared.fails.DdFail.{DdFail}
use Rattle.pm_dd.specs.declared.fails.DdFail.TheVariants as hull
use Rattle.pm_geom.specs.Evidence.{IsWideProduct}
use Rattle.pm_geom.specs.Generators.{IsCanonicalRay}
use Rattle.pm_geom.specs.declared.evidence.Evidence.{Evidence}
use Rattle.pm_geom.specs.declared.evidence.Evidence.TheVariants.{E4}
use Rattle.pm_dd.specs.HullRefusals.{IsShownOnParts}
use Rattle.pm_dd.specs.Hulls.{AreFacets}
use Rattle.pm_laws_normal_fans.specs.Fans.{Fan, InIntersection, cone_at}
use Rattle.pm_laws_normal_fans.specs.Refinements.{Intersection}
use Rattle.pm_refine.specs.CutRows.{CutRows, IsSomeRow, cuts_at}
use Rattle.pm_refine.specs.Steps.{IsCutOutBy}
use Rattle.pm_refine.specs.declared.fails.RefineFail.{RefineFail}
use Rattle.pm_refine.specs.declared.fails.RefineFail.TheVariants.{Memory, NotMade}
use Rattle.std.specs.List.{Any, Contains}
use Rattle.std.specs.Prelude.{List, length, ℕ, ◌++◌, ◌<◌, ◌≡◌, ◌⊎◌}

-- a refusal of double description at a pair of places
abbrev pub not_made_of : ℕ → ℕ → DdFail → RefineFail
not_made_of i j (hull.Wide e) = NotMade i j e
not_made_of i j (hull.Many e) = NotMade i j e
not_made_of i j hull.Memory = Memory

-- with the places exchanged
abbrev pub turned : RefineFail → RefineFail
turned (NotMade i j e) = NotMade j i e
turned Memory = Memory

-- evidence of double description, on a list that has a first part L and a second part G
abbrev pub IsShownBy : ℕ → List Row → List Row → Evidence → Type 0
IsShownBy n L G e = IsShownOnParts n L G (hull.Wide e) ⊎ IsShownOnParts n L G (hull.Many e)

-- ---- what the public call shows
-- the facet rows of the cones at places i and j, with the rows that vanish on them as equations, show the evidence
pub record IsShownByFacets (n : ℕ) (f g : Fan) (i j : ℕ) (e : Evidence) : Type 0 where
  pub first_facets : List Row
  pub first_hull : List Row
  pub second_facets : List Row
  pub second_hull : List Row
  pub first : AreFacets n (cone_at f i) f.lines first_facets first_hull
  pub second : AreFacets n (cone_at g j) g.lines second_facets second_hull
  pub shown : IsShownBy n (first_hull ++ second_hull) (first_facets ++ second_facets) e

-- r is a canonical facet row of a cone of the fan, or a row of the echelon basis of the rows that vanish on it
pub record IsFacetRowOf (n : ℕ) (f : Fan) (r : Row) : Type 0 where
  pub place : ℕ
  pub within : place < length f.cones
  pub facets : List Row
  pub hull : List Row
  pub are : AreFacets n (cone_at f place) f.lines facets hull
  pub row : Contains facets r ⊎ Contains hull r

-- the evidence names a canonical ray of the intersection and such a row of either fan, whose product leaves the range
abbrev pub IsWideRay : ℕ → Fan → Fan → ℕ → ℕ → Evidence → Type 0
IsWideRay n f g i j (E4 x r) = IsCanonicalRay n (InIntersection f g i j) x
    × (IsFacetRowOf n f r ⊎ IsFacetRowOf n g r) × IsWideProduct x r
IsWideRay n f g i j e = ⊥

-- the evidence holds of the cones at places i and j: of the generators of one of them, of the facet rows of both, or
-- of a ray of their intersection
abbrev pub IsShownByPair : ℕ → Fan → Fan → ℕ → ℕ → Evidence → Type 0
IsShownByPair n f g i j e = (IsShownBy n f.lines (cone_at f i) e ⊎ IsShownBy n g.lines (cone_at g j) e)
    ⊎ (IsShownByFacets n f g i j e ⊎ IsWideRay n f g i j e)

-- the refusal is want of memory, or names a pair of cones and evidence that holds of it
abbrev pub IsRefineFail : ℕ → Fan → Fan → RefineFail → Type 0
IsRefineFail n f g (NotMade i j e) = (i < length f.cones) × (j < length g.cones) × IsShownByPair n f g i j e
IsRefineFail n f g Memory = Unit {0}

-- ---- what the calls on the way show
-- the refusal is want of memory, or names the place of a cone, and 0, and evidence that holds of the cone's generators
abbrev pub IsConeFail : ℕ → Fan → RefineFail → Type 0
IsConeFail n f (NotMade i j e) = (i < length f.cones) × (j ≡ 0) × IsShownBy n f.lines (cone_at f i) e
IsConeFail n f Memory = Unit {0}

-- the refusal is want of memory, or names a pair of places and two rows (E4) of which P holds and whose product leaves
-- the range
abbrev pub IsWideOf : (ℕ → ℕ → Row → Row → Type 0) → RefineFail → Type 0
IsWideOf P (NotMade i j (E4 x r)) = P i j x r × IsWideProduct x r
IsWideOf P (NotMade i j e) = ⊥
IsWideOf P Memory = Unit {0}

-- these places, this ray, and a row of which Q holds
abbrev pub IsTestOfRay : ℕ → ℕ → Row → (Row → Type 0) → ℕ → ℕ → Row → Row → Type 0
IsTestOfRay first second ray Q i j x r = (i ≡ first) × (j ≡ second) × (x ≡ ray) × Q r

-- the places and a ray of one of the intersections, and a row of which Q holds
abbrev pub IsTestOf : List Intersection → (Row → Type 0) → ℕ → ℕ → Row → Row → Type 0
IsTestOf tested Q i j x r = Any (λ a. (i ≡ a.first) × (j ≡ a.second) × Contains a.rays x) tested × Q r

-- the refusal is want of memory, or names this pair and evidence that holds of the facet rows of both
abbrev pub IsPairFail : ℕ → CutRows → CutRows → ℕ → ℕ → RefineFail → Type 0
IsPairFail n c d i j (NotMade a b e) = (a ≡ i) × (b ≡ j)
    × IsShownBy n (c.hull ++ d.hull) (c.facets ++ d.facets) e
IsPairFail n c d i j Memory = Unit {0}

-- the evidence names a ray of the intersection at places i and j, and a row of C or D, whose product leaves the range
abbrev pub IsWideCut : ℕ → List CutRows → List CutRows → ℕ → ℕ → Evidence → Type 0
IsWideCut n C D i j (E4 x r) =
    ((rays : List Row) × (K : List Row) × IsCutOutBy n C D K (record { first = i; second = j; rays = rays })
    × Contains rays x) × IsSomeRow C D r × IsWideProduct x r
IsWideCut n C D i j e = ⊥

-- the refusal is want of memory, or names a pair of places and evidence that holds of the rows there
abbrev pub IsStepFail : ℕ → List CutRows → List CutRows → RefineFail → Type 0
IsStepFail n C D (NotMade i j e) = (i < length C) × (j < length D)
    × (IsShownBy n ((cuts_at C i).hull ++ (cuts_at D j).hull)
    ((cuts_at C i).facets ++ (cuts_at D j).facets) e ⊎ IsWideCut n C D i j e)
IsStepFail n C D Memory = Unit {0}
