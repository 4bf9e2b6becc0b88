-- Common divisors of whole numbers.
use Rattle.std.specs.Int.{IsGcd}
use Rattle.std.specs.Prelude.{unsigned_abs, ◌≡◌}
use lib.IntN.{pos, ℤ, ◌*ℤ◌}
use lib.Signed.{◌<ℤ◌}

-- u and v are a and b, both divided by their greatest common divisor
pub record IsCancelled (a b u v : ℤ) : Type 0 where
  pub g : ℤ
  pub positive : pos 0 <ℤ g
  pub greatest : IsGcd (unsigned_abs a) (unsigned_abs b) (unsigned_abs g)
  pub first : a ≡ g *ℤ u
  pub second : b ≡ g *ℤ v
