-- The rays of a front, with their zero sets as rows of bits.
use Rattle.std.specs.Prelude.{ℕ, suc, ◌+◌, ◌≡◌, ◌<◌, ◌≤◌, ◌↔◌, Bool, IsTrue, List, [], ◌++◌, length, take}
use Rattle.std.specs.List.{slice_index_or}
use Rattle.pm_vector.specs.Rows.{Row, dot, HasCols}
use Rattle.pm_vector.specs.Bases.{IsRank, row_at}
use Rattle.pm_bits.specs.Sets.{has, IsIntersection, IsSubset, member_count}
use Rattle.pm_bits.specs.Table.{Table, OtherContains}
use Rattle.pm_geom.specs.Cones.{IsOrder}
use Rattle.pm_geom.specs.Faces.{ray}
use Rattle.pm_dd.specs.Description.{Adjacent, combined}
use Rattle.pm_dd.specs.Fronts.{HalfSpaces}
use lib.IntN.{pos}
use lib.Signed.{◌<ℤ◌}

-- of the first f rows of J the bits of z are those on which r vanishes; z has a bit for each row of J, and no other
-- bit is set
pub record IsZeroSet (J : List Row) (f : ℕ) (r : Row) (z : List Bool) : Type 0 where
  pub as_many : length z ≡ length J
  pub exact : (p : ℕ) → IsTrue (has z p) ↔ ((p < f) × (dot (row_at J p) r ≡ pos 0))

abbrev pub zero_set : List (List Bool) → ℕ → List Bool
zero_set Z k = slice_index_or Z k []

-- V is an order of the extreme rays of the cone of the equations E and the first f rows of J, and the rows of Z are
-- their zero sets
pub record IsRayTable (n : ℕ) (E J : List Row) (f : ℕ) (V : List Row) (Z : List (List Bool)) : Type 0 where
  pub within : f ≤ length J
  pub order : IsOrder n (HalfSpaces E (take f J)) V
  pub as_many : length Z ≡ length V
  pub zeros : (k : ℕ) → k < length V → IsZeroSet J f (ray V k) (zero_set Z k)

-- the scan decides adjacency
abbrev pub ScanIsRight : Type 0
ScanIsRight = (n : ℕ) (E J : List Row) (f : ℕ) (V : List Row) (Z : List (List Bool)) → IsRayTable n E J f V Z
    → (i j : ℕ) → i < length V → j < length V → (both : List Bool)
    → IsIntersection both (zero_set Z i) (zero_set Z j) →
    (table : Table) → table.rows ≡ Z → Adjacent (take f J) V i j ↔ ¬ (OtherContains table both i j)

-- the count filter drops only what the scan drops
abbrev pub CountFilter : Type 0
CountFilter = (n : ℕ) (E J : List Row) (f : ℕ) (V : List Row) (Z : List (List Bool)) → HasCols n E
    → HasCols n J → IsRayTable n E J f V Z → (d : ℕ) → IsRank (E ++ take f J) d → (i j : ℕ) → i < length V
    → j < length V →
    (both : List Bool) → length both ≡ length J → IsIntersection both (zero_set Z i) (zero_set Z j)
    → member_count both + length E + 2 < d → ¬ (Adjacent (take f J) V i j)

-- the near filter drops only what the count filter drops: u has the zero sets of the rays of one sign
abbrev pub NearFilter : Type 0
NearFilter = (n : ℕ) (E J : List Row) (f : ℕ) (V : List Row) (Z : List (List Bool)) → HasCols n E
    → HasCols n J → IsRayTable n E J f V Z → (d : ℕ) → IsRank (E ++ take f J) d → (i j : ℕ) → i < length V
    → j < length V →
    (u near : List Bool) → IsSubset (zero_set Z j) u → length near ≡ length J
    → IsIntersection near (zero_set Z i) u → member_count near + length E + 2 < d
    → ¬ (Adjacent (take f J) V i j)

-- the zero set of a ray whose product with the next row is not 0 stays; where it is 0 the next bit is set
pub record ZeroSetsGrow (J : List Row) (f : ℕ) : Type 0 where
  pub away : (r : Row) (z : List Bool) → f < length J → IsZeroSet J f r z → ¬ (dot (row_at J f) r ≡ pos 0)
      → IsZeroSet J (suc f) r z
  pub on : (r : Row) (z w : List Bool) → f < length J → IsZeroSet J f r z → dot (row_at J f) r ≡ pos 0
      → length w ≡ length z → IsTrue (has w f) → ((p : ℕ) → ¬ (p ≡ f) → has w p ≡ has z p)
      → IsZeroSet J (suc f) r w

-- and that of a combination is where both vanish
abbrev pub ZeroSetOfPair : Type 0
ZeroSetOfPair = (E J : List Row) (f : ℕ) → f < length J → (r s : Row) → HalfSpaces E (take f J) r
    → HalfSpaces E (take f J) s → pos 0 <ℤ dot (row_at J f) r → dot (row_at J f) s <ℤ pos 0
    → (z w both : List Bool) →
    IsZeroSet J f r z → IsZeroSet J f s w → length both ≡ length J → IsIntersection both z w
    → IsZeroSet J f (combined (row_at J f) r s) both
