-- Common multiples of two numbers.
use Rattle.std.specs.Int.{◌∣◌}
use Rattle.std.specs.Prelude.{ℕ, ◌↔◌}

-- m is the least common multiple of a and b: its multiples are the common multiples of a and b
pub record IsLcm (a b m : ℕ) : Type 0 where
  pub multiples : (c : ℕ) → (m ∣ c) ↔ ((a ∣ c) × (b ∣ c))
