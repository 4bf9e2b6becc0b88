-- What the refusal of one step shows.
use Rattle.std.specs.Prelude.{ℕ, suc, ◌≡◌, ◌<◌, ◌⊎◌, Bool, List, length, take}
use Rattle.std.specs.List.{All, AllPairs}
use Rattle.pm_vector.specs.Rows.{Row, entry}
use Rattle.pm_vector.specs.Bases.{row_at}
use Rattle.pm_bits.specs.Sets.{IsIntersection}
use Rattle.pm_bits.specs.Table.{Table, OtherContains}
use Rattle.pm_vector.specs.Steps.{IsFactors}
use Rattle.pm_geom.specs.Cones.{IsExtreme, SameModulo}
use Rattle.pm_geom.specs.Faces.{ray}
use Rattle.pm_vector.specs.Differences.{EntryStays}
use Rattle.pm_vector.specs.Products.{ProductsStay}
use Rattle.pm_dd.specs.Description.{IsSource, pair}
use Rattle.pm_geom.specs.RayEvidence.{IsWideCombination}
use Rattle.pm_dd.specs.Fronts.{HalfSpaces}
use Rattle.pm_dd.specs.Tables.{zero_set}
use Rattle.pm_dd.specs.declared.fails.CombinationFail.{CombinationFail}
use Rattle.pm_dd.specs.declared.fails.CombinationFail.TheVariants.{Column, First, NoMemory, Second}
use Rattle.pm_dd.specs.declared.fails.StepFail.{StepFail}
use Rattle.pm_dd.specs.declared.fails.StepFail.TheVariants.{Product, Pair, Many, Memory}
use lib.IntN.{ℤ}
use Rattle.pm_limits.specs.Limits.{most_rows}

-- in the column c a product or the difference of (p/g) s - (q/g) r leaves the range, where g is the greatest common
-- divisor of |q| and p
pub record IsWideFactors (r : Row) (p : ℤ) (s : Row) (q : ℤ) (c : ℕ) : Type 0 where
  pub a : ℤ
  pub b : ℤ
  pub factors : IsFactors q p a b
  pub within : c < length s
  pub wide : ¬ (EntryStays a (entry s c) b (entry r c))

-- Q holds of the column of the refusal of a combination, where it has one
abbrev pub IfColumn : CombinationFail → (ℕ → Type 0) → Type 0
IfColumn First Q = ⊥
IfColumn Second Q = ⊥
IfColumn (Column c) Q = Q c
IfColumn NoMemory Q = Unit {0}

-- the product of a with r or with s leaves the range, or the combination of r and s that vanishes on a does in the
-- column that is named; or it is want of memory
abbrev pub IsCombinationFail : Row → Row → Row → CombinationFail → Type 0
IsCombinationFail a r s First = ¬ (ProductsStay a r)
IsCombinationFail a r s Second = ¬ (ProductsStay a s)
IsCombinationFail a r s (Column c) = IsWideCombination a r s c
IsCombinationFail a r s NoMemory = Unit {0}

-- no other zero set has what those of the rays at i and at j both have
pub record IsTablePair (table : Table) (i j : ℕ) : Type 0 where
  pub both : List Bool
  pub meet : IsIntersection both (zero_set table.rows i) (zero_set table.rows j)
  pub alone : ¬ (OtherContains table both i j)

-- the refusal names i or j, whose product with a leaves the range; or i and j, a pair of the table, and a column in
-- which their combination does; or it is want of memory
abbrev pub IsPairFailOf : Row → List Row → Table → ℕ → ℕ → StepFail → Type 0
IsPairFailOf a V table i j (Product k) = ((k ≡ i) ⊎ (k ≡ j)) × ¬ (ProductsStay a (ray V k))
IsPairFailOf a V table i j (Pair k l c) = (k ≡ i) × (l ≡ j) × IsTablePair table i j
    × IsWideCombination a (ray V i) (ray V j) c
IsPairFailOf a V table i j (Many W) = ⊥
IsPairFailOf a V table i j Memory = Unit {0}

-- the rays at i and at j are a pair that is combined for the next row, and their combination leaves the range in the
-- column c
pub record IsWideSource (J : List Row) (f : ℕ) (V : List Row) (i j c : ℕ) : Type 0 where
  pub source : IsSource (take f J) (row_at J f) V (pair i j)
  pub combination : IsWideCombination (row_at J f) (ray V i) (ray V j) c

-- Q holds of the ray that the refusal names, or it is want of memory
abbrev pub IfProduct : StepFail → (ℕ → Type 0) → Type 0
IfProduct (Product k) Q = Q k
IfProduct (Pair i j c) Q = ⊥
IfProduct (Many W) Q = ⊥
IfProduct Memory Q = Unit {0}

-- more than most_rows extreme rows of S, no two alike
pub record AreTooMany (n : ℕ) (S : Row → Type 0) (W : List Row) : Type 0 where
  pub extreme : All (IsExtreme n S) W
  pub apart : AllPairs (λ v w. ¬ (SameModulo n S v w)) W
  pub many : most_rows < length W

-- the refusal names a ray whose product with the next row leaves the range, an adjacent pair with a column in which
-- its combination does, or too many extreme rays of the next cone
abbrev pub IsStepFail : ℕ → List Row → List Row → ℕ → List Row → StepFail → Type 0
IsStepFail n E J f V (Product k) = (k < length V) × ¬ (ProductsStay (row_at J f) (ray V k))
IsStepFail n E J f V (Pair i j c) = IsWideSource J f V i j c
IsStepFail n E J f V (Many W) = AreTooMany n (HalfSpaces E (take (suc f) J)) W.items
IsStepFail n E J f V Memory = Unit {0}
