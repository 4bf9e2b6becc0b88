-- The greatest value of an objective c, a row of fractions, at the points of a cone S of rows, and the rays where it
-- stands (Chvatal, Linear Programming, chapters 1 and 5; Ziegler, Lectures on Polytopes, section 3.2). The least
-- value is the opposite of the greatest value of the opposite objective.
use Rattle.std.specs.Prelude.{ℕ, ◌≡◌, ◌<◌, ◌↔◌, List, length, map}
use Rattle.std.specs.List.{AllPairs, Contains}
use Rattle.pm_vector.specs.Numbers.{Ratio}
use Rattle.pm_vector.specs.Rows.{Row, dot, entry}
use Rattle.pm_fraction.specs.Arithmetic.{opposite_of}
use Rattle.pm_geom.specs.Faces.{ray}
use Rattle.pm_geom.specs.Programs.{HasNoPoint, IsMaximum, IsTimes, IsWithoutBound}
use Rattle.pm_types.specs.Values.{Extended, finite, plus_infinity, minus_infinity}
use lib.IntN.{ℤ, pos, ◌*ℤ◌}

-- -c
abbrev pub opposite_objective : List Ratio → List Ratio
opposite_objective c = map opposite_of c

-- -x
abbrev pub opposite_extended : Extended → Extended
opposite_extended (finite v) = finite (opposite_of v)
opposite_extended plus_infinity = minus_infinity
opposite_extended minus_infinity = plus_infinity

-- x is the greatest value of c: inf where c improves without end, -inf where there is no point
abbrev pub IsGreatest : (Row → Type 0) → List Ratio → Extended → Type 0
IsGreatest S c (finite v) = IsMaximum S c v
IsGreatest S c plus_infinity = IsWithoutBound S c
IsGreatest S c minus_infinity = HasNoPoint S

-- this is so of the greatest value of c
pub record OfGreatest (S : Row → Type 0) (c : List Ratio) (P : Extended → Type 0) : Type 0 where
  pub value : Extended
  pub greatest : IsGreatest S c value
  pub holds : P value

-- c.x = v x_0
pub record HasValueAt (c : List Ratio) (v : Ratio) (x : Row) : Type 0 where
  pub k : ℤ
  pub objective : Row
  pub times : IsTimes k c objective
  pub value : dot objective x *ℤ v.den ≡ (k *ℤ entry x 0) *ℤ v.num

-- c has the value at x; an infinity nowhere
abbrev pub HasExtendedAt : List Ratio → Extended → Row → Type 0
HasExtendedAt c (finite v) x = HasValueAt c v x
HasExtendedAt c x y = ⊥

-- the places of the rays at which c has the value, ascending
pub record ArePlacesOfValue (c : List Ratio) (value : Extended) (V : List Row) (ks : List ℤ) : Type 0 where
  pub js : List ℕ
  pub places : ks ≡ map pos js
  pub ascending : AllPairs (λ i j. i < j) js
  pub each : (j : ℕ) → Contains js j ↔ ((j < length V) × HasExtendedAt c value (ray V j))

-- the places of the rays of the face where c is greatest; none where it has no greatest value
abbrev pub IsGreatestFace : (Row → Type 0) → List Ratio → List Row → List ℤ → Type 0
IsGreatestFace S c V ks = OfGreatest S c (λ value. ArePlacesOfValue c value V ks)
