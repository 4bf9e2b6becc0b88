-- The row of one set: the only row of a null space, with its sign turned.
use Rattle.std.specs.Prelude.{ℕ, ◌==◌, ◌≡◌, ◌⊎◌, List, [], ◌∷◌, if◌then◌else◌, length, replicate, unsigned_abs}
use Rattle.std.specs.List.{Contains}
use Rattle.pm_vector.specs.Rows.{Row, dot, opposite}
use Rattle.pm_vector.specs.NullSpaces.{IsNullBasis}
use Rattle.pm_geom.specs.Evidence.{IsWideProduct}
use Rattle.pm_geom.specs.declared.evidence.Evidence.TheVariants.{E4}
use Rattle.pm_incidence.specs.FromSets.{determining}
use Rattle.pm_incidence.specs.declared.fails.ThinFail.{ThinFail}
use Rattle.pm_incidence.specs.declared.fails.ThinFail.TheVariants.{Many, Memory, Wide}
use lib.IntN.{ℤ, pos}
use lib.Signed.{◌<ℤ◌, ◌≤ℤ◌}

-- the first product of x with the rows of A that is not 0, and 0 where there is none
abbrev pub first_product : Row → List Row → ℤ
first_product x [] = pos 0
first_product x (a ∷ A) = if unsigned_abs (dot x a) == 0 then first_product x A else dot x a

-- r is x or its opposite, such that this product is not negative
abbrev pub IsTurned : List Row → Row → Row → Type 0
IsTurned A x r = ((first_product x A <ℤ pos 0) × (r ≡ opposite x)) ⊎ ((pos 0 ≤ℤ first_product x A) × (r ≡ x))

-- r is the only row of the echelon basis of the null space of the rows that determine the row of the set, turned; a
-- row of zeros where that basis has not one row
pub record IsFound (n : ℕ) (E A : List Row) (P set : List ℕ) (r : Row) : Type 0 where
  pub null : List Row
  pub columns : List ℕ
  pub basis : IsNullBasis n (determining n E A set P) null columns
  pub one : (x : Row) → null ≡ x ∷ [] → IsTurned A x r
  pub none : ¬ (length null ≡ 1) → r ≡ replicate n (pos 0)

-- an error's evidence names x and a row of A whose product leaves the range
abbrev pub IsWideWith : Row → List Row → ThinFail → Type 0
IsWideWith x A (Wide (E4 first second)) = (first ≡ x) × Contains A second × IsWideProduct first second
IsWideWith x A (Wide e) = ⊥
IsWideWith x A (Many e) = ⊥
IsWideWith x A Memory = Unit {0}
