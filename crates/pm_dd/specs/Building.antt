-- The rays of the next front, while they are made.
use Rattle.std.specs.Prelude.{ℕ, suc, ◌+◌, ◌-◌, ◌^◌, ◌≡◌, ◌<◌, ◌≤◌, ◌⊎◌, ◌↔◌, IsTrue, Bool, List, [], ◌∷◌, count_by, get_or, int_le, length, take}
use Rattle.pm_vector.specs.Divisors.{IsPrimitiveOf}
use Rattle.pm_vector.specs.Numbers.{InRange}
use Rattle.pm_vector.specs.Rows.{Row, dot, entry}
use Rattle.pm_vector.specs.Bases.{row_at}
use Rattle.pm_bits.specs.Sets.{has, IsIntersection, common_count, member_count}
use Rattle.pm_bits.specs.Table.{Table, OtherContains}
use Rattle.pm_geom.specs.Cones.{SameModulo}
use Rattle.pm_geom.specs.Faces.{ray}
use Rattle.pm_dd.specs.Description.{Source, combined, kept, pair, IsSource, source_row}
use Rattle.pm_dd.specs.Form.{KeepsForm}
use Rattle.pm_dd.specs.Fronts.{HalfSpaces}
use Rattle.pm_dd.specs.Tables.{IsZeroSet, zero_set}
use lib.IntN.{ℤ, neg_ℤ, pos}
use lib.Signed.{◌<ℤ◌, ◌≤ℤ◌}

-- y is the zero set z, with the bit f set where v is 0
pub record NextZeros (z : List Bool) (f : ℕ) (v : ℤ) (y : List Bool) : Type 0 where
  pub as_many : length y ≡ length z
  pub on : v ≡ pos 0 → IsTrue (has y f)
  pub others : (p : ℕ) → (p ≡ f → ¬ (v ≡ pos 0)) → has y p ≡ has z p

-- v is z where z is in the range, and else the end of the range on the side of z
pub record StandsFor (z v : ℤ) : Type 0 where
  pub same : InRange z → v ≡ z
  pub above : pos (2 ^ 127) ≤ℤ z → v ≡ pos (2 ^ 127 - 1)
  pub below : z ≤ℤ neg_ℤ (pos (2 ^ 127)) → v ≡ neg_ℤ (pos (2 ^ 127 - 1))

-- v has for the product of a with each row of V what stands for it
pub record StandFor (a : Row) (V : List Row) (v : List ℤ) : Type 0 where
  pub as_many : length v ≡ length V
  pub each : (i : ℕ) → i < length V → StandsFor (dot a (ray V i)) (entry v i)

-- the ray at l is not behind, or has fewer than `need` rows in common with u
abbrev pub IsPassed : Table → List ℤ → List Bool → ℕ → ℕ → Type 0
IsPassed table v u need l = (pos 0 ≤ℤ entry v l) ⊎ (common_count (zero_set table.rows l) u < need)

-- v is negative at j, a place from `start` on and before n, and the places before it are passed over
pub record IsNextNegative (passed : ℕ → Type 0) (v : List ℤ) (start n j : ℕ) : Type 0 where
  pub from : start ≤ j
  pub within : j < n
  pub negative : entry v j <ℤ pos 0
  pub before : (l : ℕ) → start ≤ l → l < j → passed l

-- places of negative values from `start` on, and before n, in order; all others are passed over
abbrev pub AreNegativesLeft : (ℕ → Type 0) → List ℤ → ℕ → ℕ → List ℕ → Type 0
AreNegativesLeft passed v start n [] = (l : ℕ) → start ≤ l → l < n → passed l
AreNegativesLeft passed v start n (j ∷ js) = IsNextNegative passed v start n j
    × AreNegativesLeft passed v (j + 1) n js

-- the cone of the equations E, the first f rows of J, and the next one
abbrev pub NextSet : List Row → List Row → ℕ → Row → Type 0
NextSet E J f = HalfSpaces E (row_at J f ∷ take f J)

-- w is like the ray that the source s gives, and y is its zero set
pub record IsMade (n : ℕ) (E J : List Row) (f : ℕ) (V : List Row) (s : Source) (w : Row) (y : List Bool)
    : Type 0 where
  pub source : IsSource (take f J) (row_at J f) V s
  pub cols : length w ≡ n
  pub alike : SameModulo n (NextSet E J f) (source_row (row_at J f) V s) w
  pub inside : NextSet E J f w
  pub form : KeepsForm V w
  pub zeros : IsZeroSet J (suc f) w y

-- W has one such row for each source that was seen, and Y their zero sets
pub record IsBuilt (n : ℕ) (E J : List Row) (f : ℕ) (V : List Row) (seen : Source
    → Type 0) (W : List Row) (Y : List (List Bool)) : Type 0 where
  pub sources : List Source
  pub as_many : length sources ≡ length W
  pub zeros_many : length Y ≡ length W
  pub made : (k : ℕ) → k < length W → IsMade n E J f V (get_or sources k (kept 0)) (ray W k) (zero_set Y k)
  pub only : (k : ℕ) → k < length W → seen (get_or sources k (kept 0))
  pub every : (s : Source) → IsSource (take f J) (row_at J f) V s → seen s
      → (k : ℕ) × (k < length W) × (get_or sources k (kept 0) ≡ s)
  pub once : (i j : ℕ) → i < j → j < length W → ¬ (get_or sources i (kept 0) ≡ get_or sources j (kept 0))

-- for some zero sets W is built
abbrev pub IsListed : ℕ → List Row → List Row → ℕ → List Row → (Source → Type 0) → List Row → Type 0
IsListed n E J f V seen W = (Y : List (List Bool)) × IsBuilt n E J f V seen W Y

-- the kept rays before i
abbrev pub SeenKept : ℕ → Source → Type 0
SeenKept i (kept k) = k < i
SeenKept i (pair k l) = ⊥

-- how many values are not negative
abbrev pub kept_count : List ℤ → ℕ
kept_count v = count_by (int_le (pos 0)) v

-- the pairs before (i, j)
abbrev pub SeenPairs : ℕ → ℕ → Source → Type 0
SeenPairs i j (kept k) = ⊥
SeenPairs i j (pair k l) = (k < i) ⊎ ((k ≡ i) × (l < j))

-- all pairs
abbrev pub IsPair : Source → Type 0
IsPair (kept k) = ⊥
IsPair (pair k l) = Unit {0}

-- w is (a.r) s - (a.s) r made primitive
abbrev pub IsCombination : Row → Row → Row → Row → Type 0
IsCombination a r s w = IsPrimitiveOf (combined a r s) w

-- too few members of both zero sets, or another zero set has all of them
pub record IsNoPair (table : Table) (i j need : ℕ) : Type 0 where
  pub both : List Bool
  pub cols : length both ≡ table.row_len
  pub meet : IsIntersection both (zero_set table.rows i) (zero_set table.rows j)
  pub dropped : (member_count both < need) ⊎ OtherContains table both i j

-- the combination of an adjacent pair that vanishes on a, with its zero set for the next front
pub record IsPairRay (a : Row) (V : List Row) (table : Table) (i j f : ℕ) (w : Row) (y : List Bool)
    : Type 0 where
  pub both : List Bool
  pub cols : length both ≡ table.row_len
  pub meet : IsIntersection both (zero_set table.rows i) (zero_set table.rows j)
  pub alone : ¬ (OtherContains table both i j)
  pub combination : IsCombination a (ray V i) (ray V j) w
  pub zeros : NextZeros both f (pos 0) y

-- a row of m bits in which those before `start` are set, but the one at k
pub record AllBut (m start k : ℕ) (z : List Bool) : Type 0 where
  pub as_many : length z ≡ m
  pub exact : (p : ℕ) → IsTrue (has z p) ↔ ((p < start) × ¬ (p ≡ k))
