-- What evidence says of an optimum, or of the rays at it, where these were not found.
use Rattle.pm_vector.specs.Cones.{InCone}
use Rattle.pm_vector.specs.Numbers.{Ratio}
use Rattle.pm_vector.specs.Rows.{Row, entry, ratio_at}
use Rattle.pm_vector.specs.Evidence.{unit}
use Rattle.pm_vector.specs.Bases.{row_at}
use Rattle.pm_fraction.specs.Arithmetic.{SumLeaves, opposite_of, product_of, sum_of}
use Rattle.pm_fraction.specs.Fractions.{IsLowestTermsOf, IsTooWide}
use Rattle.pm_geom.specs.Evidence.{IsWideProduct}
use Rattle.pm_geom.specs.Programs.{IsMaximum, IsOptimal}
use Rattle.pm_geom.specs.declared.evidence.Evidence.TheVariants.{E4}
use Rattle.pm_geom.specs.declared.evidence.Evidence.{Evidence}
use Rattle.pm_fraction.specs.FractionRows.{IsPrimitiveRowOf}
use Rattle.pm_simplex.specs.OptimalDuals.{IsDualOfDictionary}
use Rattle.pm_simplex.specs.Senses.{objective_in}
use Rattle.pm_simplex.specs.declared.sense.Sense.{Sense}
use Rattle.pm_types.specs.Forms.{HasPrimitiveRow}
use Rattle.pm_types.specs.Programs.{HasValueAt}
use Rattle.pm_types.specs.Views.{over_one}
use Rattle.std.specs.List.{Contains}
use Rattle.std.specs.Prelude.{List, [], length, suc, ℕ, ◌++◌, ◌<◌, ◌∷◌, ◌≡◌, ◌⊎◌}
use lib.IntN.{pos}
use lib.Signed.{◌<ℤ◌}

-- e names the row w and one of the rows X, and their product leaves the range
abbrev pub ShowsProduct : Row → List Row → Evidence → Type 0
ShowsProduct w X (E4 first second) = (first ≡ w) × Contains X second × IsWideProduct first second
ShowsProduct w X e = ⊥

-- ---- optima
-- c has its greatest value on the cone of the rays V and lines L at the ray x, and that value leaves the range in
-- lowest terms
pub record IsWideMaximum (c : List Ratio) (V L : List Row) (x : Row) : Type 0 where
  pub listed : Contains V x
  pub first : pos 0 <ℤ entry x 0
  pub value : Ratio
  pub attained : HasValueAt c value x
  pub greatest : IsMaximum (InCone V L) c value
  pub wide : IsTooWide value

-- e names the row w and such a ray
abbrev pub ShowsMaximum : Row → List Ratio → List Row → List Row → Evidence → Type 0
ShowsMaximum w c V L (E4 first second) = (first ≡ w) × IsWideMaximum c V L second
ShowsMaximum w c V L e = ⊥

-- e names the primitive row of the objective, and a ray or line whose product with it leaves the range, or a ray at
-- which the optimum stands, which does
pub record ShowsValue (sense : Sense) (c : List Ratio) (V L : List Row) (e : Evidence) : Type 0 where
  pub row : Row
  pub primitive : IsPrimitiveRowOf c row
  pub shown : ShowsProduct row (V ++ L) e ⊎ ShowsMaximum row (objective_in sense c) V L e

-- ---- the rays at a value
-- r is the row v e0 - c of fractions in lowest terms, which vanishes where c has the value v
pub record IsLevelRow (c : List Ratio) (v : Ratio) (r : List Ratio) : Type 0 where
  pub cols : length r ≡ length c
  pub first : IsLowestTermsOf (sum_of v (opposite_of (ratio_at c 0))) (ratio_at r 0)
  pub others : (i : ℕ) → suc i < length c → ratio_at r (suc i) ≡ opposite_of (ratio_at c (suc i))

-- v e0 - c leaves the range as it is made, or as it is made primitive
abbrev pub IsWideLevel : List Ratio → Ratio → Type 0
IsWideLevel c v = SumLeaves v (opposite_of (ratio_at c 0))
    ⊎ ((r : List Ratio) × IsLevelRow c v r × ¬ (HasPrimitiveRow r))

-- e names the row w and (1, 0, .., 0), and v e0 - c leaves the range so
abbrev pub ShowsLevel : Row → List Ratio → Ratio → Evidence → Type 0
ShowsLevel w c v (E4 first second) = (first ≡ w) × (second ≡ unit (length c) 0) × IsWideLevel c v
ShowsLevel w c v e = ⊥

-- e names the primitive row of v e0 - c and one of the rays, whose product leaves the range
pub record ShowsLevelProduct (c : List Ratio) (v : Ratio) (V : List Row) (e : Evidence) : Type 0 where
  pub fractions : List Ratio
  pub row : Row
  pub level : IsLevelRow c v fractions
  pub primitive : IsPrimitiveRowOf fractions row
  pub shown : ShowsProduct row V e

-- or it names the primitive row of the objective and (1, 0, .., 0), where v e0 - c is not made
pub record ShowsWideLevel (sense : Sense) (c : List Ratio) (v : Ratio) (e : Evidence) : Type 0 where
  pub row : Row
  pub primitive : IsPrimitiveRowOf c row
  pub shown : ShowsLevel row (objective_in sense c) v e

-- v is the value of the objective in that sense
abbrev pub ShowsFace : Sense → List Ratio → Ratio → List Row → Evidence → Type 0
ShowsFace sense c v V e = ShowsLevelProduct (objective_in sense c) v V e ⊎ ShowsWideLevel sense c v e

-- ---- the rows of a dual
-- r is the row of fractions q a, in lowest terms
pub record IsMultipleRow (q : Ratio) (a : Row) (r : List Ratio) : Type 0 where
  pub cols : length r ≡ length a
  pub each : (i : ℕ) → i < length a → IsLowestTermsOf (product_of q (over_one (entry a i))) (ratio_at r i)

-- an entry of q a leaves the range, or q a does as it is made primitive
abbrev pub IsWideMultiple : Ratio → Row → Type 0
IsWideMultiple q a = ((i : ℕ) × (i < length a) × IsTooWide (product_of q (over_one (entry a i))))
    ⊎ ((r : List Ratio) × IsMultipleRow q a r × ¬ (HasPrimitiveRow r))

-- a is one of the rows A, its multiplier p/q among y is positive, x is (p, q), and p/q a leaves the range so
pub record IsWideWeight (A : List Row) (y : List Ratio) (a x : Row) : Type 0 where
  pub place : ℕ
  pub within : place < length A
  pub row : a ≡ row_at A place
  pub multiplier : x ≡ (ratio_at y place).num ∷ (ratio_at y place).den ∷ []
  pub positive : pos 0 <ℤ (ratio_at y place).num
  pub wide : IsWideMultiple (ratio_at y place) a

-- e names such rows
abbrev pub ShowsWideWeight : List Row → List Ratio → Evidence → Type 0
ShowsWideWeight A y (E4 first second) = IsWideWeight A y first second
ShowsWideWeight A y e = ⊥

-- so it does for the dual of an optimal dictionary, which shows the greatest value of c
pub record ShowsDualRow (A E : List Row) (c : List Ratio) (e : Evidence) : Type 0 where
  pub value : Ratio
  pub point : List Ratio
  pub dual : List Ratio
  pub optimal : IsOptimal A E c value point dual
  pub of_dictionary : IsDualOfDictionary A E c dual
  pub shown : ShowsWideWeight A dual e
