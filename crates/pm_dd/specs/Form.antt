-- The form that rays have on the way: primitive, and 0 in the pivot columns of the echelon basis of the lineality.
use Rattle.std.specs.Prelude.{ℕ, ◌≡◌, List}
use Rattle.std.specs.List.{All}
use Rattle.pm_vector.specs.Divisors.{IsPrimitive}
use Rattle.pm_vector.specs.Rows.{Row, entry}
use Rattle.pm_vector.specs.NullSpaces.{IsNullBasis}
use Rattle.pm_geom.specs.Generators.{VanishAt}
use lib.IntN.{pos}

-- w is primitive where all rows of V are, and 0 in each column where all of them are
pub record KeepsForm (V : List Row) (w : Row) : Type 0 where
  pub primitive : All IsPrimitive V → IsPrimitive w
  pub zeros : (c : ℕ) → All (λ v. entry v c ≡ pos 0) V → entry w c ≡ pos 0

-- so is each row of W
abbrev pub KeepForm : List Row → List Row → Type 0
KeepForm V W = All (KeepsForm V) W

-- the rows V are primitive, and 0 in the pivot columns of the echelon basis of the null space of the rows A
pub record AreReduced (n : ℕ) (A V : List Row) : Type 0 where
  pub null : List Row
  pub pivots : List ℕ
  pub basis : IsNullBasis n A null pivots
  pub primitive : All IsPrimitive V
  pub zeros : All (VanishAt pivots) V
