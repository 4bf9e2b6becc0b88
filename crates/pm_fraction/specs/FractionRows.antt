-- Rows of fractions, and the whole rows in their direction.
use Rattle.pm_vector.specs.Divisors.{IsPrimitiveOf}
use Rattle.pm_vector.specs.Numbers.{Ratio}
use Rattle.pm_vector.specs.Rows.{Row, Stands, ratio_at}
use Rattle.std.specs.Int.{◌∣◌}
use Rattle.std.specs.List.{slice_index_or}
use Rattle.std.specs.Prelude.{List, [], length, map, unsigned_abs, ℕ, ◌/◌, ◌<◌, ◌≡◌, ◌↔◌}
use lib.IntN.{pos, ℤ, ◌*ℤ◌}

-- m is the least common multiple of the first k denominators
pub record IsLeastDenominator (r : List Ratio) (k m : ℕ) : Type 0 where
  pub multiples : (c : ℕ) → (m ∣ c) ↔ ((i : ℕ) → i < k → unsigned_abs (ratio_at r i).den ∣ c)

-- the numerator of a fraction over the denominator m
abbrev pub numerator_over : ℕ → Ratio → ℤ
numerator_over m f = f.num *ℤ pos (m / unsigned_abs f.den)

-- the numerators over the common denominator m
abbrev pub numerators_over : ℕ → List Ratio → Row
numerators_over m r = map (numerator_over m) r

-- x is the primitive row of the numerators over the least common denominator; the zero row stays
pub record IsPrimitiveRowOf (r : List Ratio) (x : Row) : Type 0 where
  pub denominator : ℕ
  pub least : IsLeastDenominator r (length r) denominator
  pub primitive : IsPrimitiveOf (numerators_over denominator r) x

-- each whole row is the primitive row of the row of fractions at its place, and stands for it
pub record ArePrimitiveRowsOf (rows : List (List Ratio)) (xs : List Row) : Type 0 where
  pub count : length xs ≡ length rows
  pub each : (i : ℕ) → i < length rows → IsPrimitiveRowOf (slice_index_or rows i []) (slice_index_or xs i [])
  pub multiple : (i : ℕ) → i < length rows → Stands (slice_index_or rows i []) (slice_index_or xs i [])
