-- The dimensions of the cones of a fan (Ziegler, Lectures on Polytopes, section 7.1): each is that of the span of the
-- cone.
use Rattle.std.specs.Prelude.{ℕ, List, [], ◌∷◌, ◌++◌, ◌+◌, ◌<◌, ◌^◌, length, map}
use Rattle.std.specs.List.{All, Contains}
use Rattle.pm_vector.specs.Rows.{Row}
use Rattle.pm_vector.specs.Bases.{IsRank}
use Rattle.pm_vector.specs.EliminationSteps.{EliminationStep}
use Rattle.pm_vector.specs.Evidence.{IsEvidence, NoEvidence}
use Rattle.pm_elim.specs.Lost.{IsLost}
use Rattle.pm_vector.specs.declared.evidence.ElimList.TheVariants as list
use Rattle.pm_geom.specs.Faces.{ray}
use lib.IntN.{ℤ, pos, negsuc}

-- the rows that span a cone: the lines, and then its rays, whose places the set has
abbrev pub cone_rows : List Row → List Row → List ℕ → List Row
cone_rows V L set = L ++ map (ray V) set

-- d is the dimension of the span of these rows
abbrev pub IsDimension : List Row → ℤ → Type 0
IsDimension X (pos d) = IsRank X d
IsDimension X (negsuc d) = ⊥

-- one number for each cone, its dimension
abbrev pub AreDimensions : List Row → List Row → List (List ℕ) → List ℤ → Type 0
AreDimensions V L [] [] = Unit {0}
AreDimensions V L [] (d ∷ dims) = ⊥
AreDimensions V L (set ∷ cones) [] = ⊥
AreDimensions V L (set ∷ cones) (d ∷ dims) = IsDimension (cone_rows V L set) d × AreDimensions V L cones dims

-- e shows a step of the elimination of the rows of one of the cones
pub record IsConeEvidence (n : ℕ) (V L : List Row) (cones : List (List ℕ)) (e : EliminationStep)
    : Type 0 where
  pub set : List ℕ
  pub listed : Contains cones set
  pub shown : IsEvidence n (cone_rows V L set) e

-- the elimination of the rows of one of the cones is lost by wide numbers too
pub record IsLostCone (n : ℕ) (V L : List Row) (cones : List (List ℕ)) : Type 0 where
  pub set : List ℕ
  pub listed : Contains cones set
  pub lost : IsLost n (cone_rows V L set)

-- no evidence shows one
abbrev pub NoConeEvidence : ℕ → List Row → List Row → List (List ℕ) → Type 0
NoConeEvidence n V L cones = All (λ set. NoEvidence n (cone_rows V L set) list.Rows) cones

-- the sets have places of rays alone, and few enough
abbrev pub ArePlaces : List Row → List Row → List (List ℕ) → Type 0
ArePlaces V L cones = All (λ set. All (λ j. j < length V) set × (length L + length set < 2 ^ 30)) cones
