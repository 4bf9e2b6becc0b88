-- What a refusal shows of sites and heights.
use Rattle.std.specs.Prelude.{ℕ, suc, ◌≡◌, ◌<◌, ◌⊎◌, List, [], ◌∷◌, ◌++◌, drop, length}
use Rattle.std.specs.List.{Contains}
use Rattle.pm_vector.specs.Divisors.{IsPrimitiveOf}
use Rattle.pm_vector.specs.Numbers.{Ratio}
use Rattle.pm_vector.specs.Rows.{Row, entry, ratio_at}
use Rattle.pm_dd.specs.declared.fails.DdFail.TheVariants as facets
use Rattle.pm_geom.specs.Cones.{IsValid}
use Rattle.pm_geom.specs.Evidence.{IsWideProduct}
use Rattle.pm_geom.specs.Faces.{ray}
use Rattle.pm_geom.specs.Generators.{IsCanonicalRay}
use Rattle.pm_geom.specs.declared.evidence.Evidence.TheVariants.{E1, E2, E4}
use Rattle.pm_dd.specs.HullRefusals.{IsShownOnParts}
use Rattle.pm_lift.specs.Lifting.{AreLiftedRows, AreRaisedRows, upwards}
use Rattle.pm_lift.specs.declared.fails.LiftFail.{LiftFail}
use Rattle.pm_lift.specs.declared.fails.LiftFail.TheVariants.{Many, Memory, Wide}

-- the refusal is want of memory, or has as evidence (E4) two rows of which P holds and whose product leaves the range
abbrev pub IsWideOf : (Row → Row → Type 0) → LiftFail → Type 0
IsWideOf P (Wide (E4 first second)) = P first second × IsWideProduct first second
IsWideOf P (Wide e) = ⊥
IsWideOf P (Many e) = ⊥
IsWideOf P Memory = Unit {0}

-- an entry of the row q alone, and the denominator of the height alone; or the first entry, and the numerator
abbrev pub IsLiftPair : Row → Ratio → Row → Row → Type 0
IsLiftPair q height first second =
    ((k : ℕ) × (k < length q) × (first ≡ entry q k ∷ []) × (second ≡ height.den ∷ []))
    ⊎ ((first ≡ entry q 0 ∷ []) × (second ≡ height.num ∷ []))

-- the first entry of the row q alone, and one of its entries alone; or twice q without its first entry
abbrev pub IsRaisePair : Row → Row → Row → Type 0
IsRaisePair q first second =
    ((k : ℕ) × (k < length q) × (first ≡ entry q 0 ∷ []) × (second ≡ entry q k ∷ []))
    ⊎ ((first ≡ drop 1 q) × (second ≡ drop 1 q))

-- such a pair of the primitive row of a site and of its height
pub record IsSiteLiftPair (site : Row) (height : Ratio) (first second : Row) : Type 0 where
  pub row : Row
  pub primitive : IsPrimitiveOf site row
  pub pair : IsLiftPair row height first second

-- of some site and its height
pub record IsPairOfSites (Q : List Row) (W : List Ratio) (first second : Row) : Type 0 where
  pub place : ℕ
  pub within : place < length Q
  pub pair : IsSiteLiftPair (ray Q place) (ratio_at W place) first second

-- such a pair of the primitive row of a site
pub record IsSiteRaisePair (site first second : Row) : Type 0 where
  pub row : Row
  pub primitive : IsPrimitiveOf site row
  pub pair : IsRaisePair row first second

-- of some site
pub record IsRaisePairOfSites (Q : List Row) (first second : Row) : Type 0 where
  pub place : ℕ
  pub within : place < length Q
  pub pair : IsSiteRaisePair (ray Q place) first second

-- a row of F and a row of X
abbrev pub ArePair : List Row → List Row → Row → Row → Type 0
ArePair F X first second = Contains F first × Contains X second

-- the refusal is shown on the row list, which is the rows X, of n + 1 entries, and then the row upwards: by a step of
-- an elimination (E1), by double description (E2, E5), or by the product of a canonical facet row of the cone of that
-- list and a row of X (E4)
abbrev pub IsRowsFail : ℕ → List Row → LiftFail → Type 0
IsRowsFail n X (Wide (E1 step)) = IsShownOnParts (suc n) [] (X ++ upwards n ∷ []) (facets.Wide (E1 step))
IsRowsFail n X (Wide (E2 front first second column)) =
    IsShownOnParts (suc n) [] (X ++ upwards n ∷ []) (facets.Wide (E2 front first second column))
IsRowsFail n X (Wide (E4 first second)) =
    IsCanonicalRay (suc n) (IsValid (suc n) (X ++ upwards n ∷ []) []) first × Contains X second
    × IsWideProduct first second
IsRowsFail n X (Wide e) = ⊥
IsRowsFail n X (Many e) = IsShownOnParts (suc n) [] (X ++ upwards n ∷ []) (facets.Many e)
IsRowsFail n X Memory = Unit {0}

-- the refusal of cells of sites with heights: it is shown on the way to the lifted rows, or on these
abbrev pub IsLiftFail : ℕ → List Row → List Ratio → LiftFail → Type 0
IsLiftFail n Q W f = IsWideOf (IsPairOfSites Q W) f
    ⊎ ((X : List Row) × AreLiftedRows Q W X × IsRowsFail n X f)

-- the refusal of Delaunay cells: it is shown on the way to the raised rows, or on these
abbrev pub IsRaiseFail : ℕ → List Row → LiftFail → Type 0
IsRaiseFail n Q f = IsWideOf (IsRaisePairOfSites Q) f
    ⊎ ((X : List Row) × AreRaisedRows Q X × IsRowsFail n X f)
