-- Whole numbers and fractions of them.
use Rattle.std.specs.Prelude.{◌≡◌, ◌<◌, ◌^◌, unsigned_abs}
use Rattle.std.specs.Int.{IsGcd}
use lib.IntN.{ℤ, pos, ◌*ℤ◌}
use lib.Signed.{◌<ℤ◌}

-- z lies in the range of the program's numbers, from -(2^127 - 1) to 2^127 - 1
abbrev pub InRange : ℤ → Type 0
InRange z = unsigned_abs z < 2 ^ 127

-- num / den, a fraction of two whole numbers
pub record Ratio : Type 0 where
  pub num : ℤ
  pub den : ℤ

-- the denominator is positive, and only 1 divides both parts
pub record IsReduced (r : Ratio) : Type 0 where
  pub positive : pos 0 <ℤ r.den
  pub coprime : IsGcd (unsigned_abs r.num) (unsigned_abs r.den) 1

-- both parts are in the range
abbrev pub InRangeRatio : Ratio → Type 0
InRangeRatio r = InRange r.num × InRange r.den

-- p and q are one number, by cross products
abbrev pub SameRatio : Ratio → Ratio → Type 0
SameRatio p q = p.num *ℤ q.den ≡ q.num *ℤ p.den

-- p < q, by cross products, for positive denominators
abbrev pub IsBelow : Ratio → Ratio → Type 0
IsBelow p q = (p.num *ℤ q.den) <ℤ (q.num *ℤ p.den)
