-- Divisors of rows.
use Rattle.std.specs.Int.{IsGcd, ◌∣◌}
use Rattle.std.specs.Prelude.{ℕ, ◌≡◌, ◌↔◌, ◌⊎◌, length, unsigned_abs}
use Rattle.pm_vector.specs.Rows.{Row, entry, times, Same, IsZero}
use lib.IntN.{ℤ, pos}
use lib.Signed.{◌<ℤ◌}

-- g is the greatest common divisor of the entries of x (0 for the zero row): what divides g is what divides each entry
pub record IsGcdOf (x : Row) (g : ℕ) : Type 0 where
  pub divides : (d : ℕ) → (d ∣ g) ↔ ((i : ℕ) → d ∣ unsigned_abs (entry x i))

-- no whole number above 1 divides each entry; so the zero row is not primitive
pub record IsPrimitive (x : Row) : Type 0 where
  pub whole : (k : ℤ) (y : Row) → length y ≡ length x → pos 0 <ℤ k → Same x (times k y) → k ≡ pos 1

-- w is the primitive whole row in the direction of v; the zero row stays
pub record IsPrimitiveOf (v w : Row) : Type 0 where
  pub cols : length w ≡ length v
  pub divided : (IsZero v × IsZero w) ⊎ ((g : ℤ) × (pos 0 <ℤ g) × Same v (times g w) × IsPrimitive w)

-- what is the greatest common divisor of v and w is that of x and y
abbrev pub HaveDivisorsOf : ℕ → ℕ → ℕ → ℕ → Type 0
HaveDivisorsOf x y v w = (g : ℕ) → IsGcd v w g → IsGcd x y g
