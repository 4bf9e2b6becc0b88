-- The last step of p x - q y, where both products are known: what the difference says of the whole.
use Rattle.pm_vector.specs.Numbers.{InRange}
use Rattle.pm_vector.specs.Differences.{EntryStays}
use Rattle.std.specs.Prelude.{Err, IfOk, Ok, OnErr, OnOk, Result, ◌≡◌}
use lib.IntN.{ℤ, ◌*ℤ◌, ◌-ℤ◌}

module _ {E : Type 0} (p x q y a b : ℤ) (first : a ≡ p *ℤ x) (second : b ≡ q *ℤ y) where
  pub last_value : (r : Result ℤ E) → IfOk r (λ z. z ≡ a -ℤ b) → IfOk r (λ z. z ≡ p *ℤ x -ℤ q *ℤ y)
  last_value r value = rw (first, second) at value

  pub last_stays : (r : Result ℤ E) → InRange a → InRange b → IfOk r (λ z. z ≡ a -ℤ b) → IfOk r InRange → OnOk r (EntryStays p x q y)
  last_stays (Ok z) in_a in_b value in_range = record {
    first = rw first at in_a;
    second = rw second at in_b;
    difference = rw (value, first, second) at in_range;
  }
  last_stays (Err e) in_a in_b value in_range = tt

  pub last_wide : (r : Result ℤ E) → OnErr r (InRange (a -ℤ b) → ⊥) → OnErr r (EntryStays p x q y → ⊥)
  last_wide (Ok z) wide = tt
  last_wide (Err e) wide = λ s. wide (rw (first, second) s.difference)
