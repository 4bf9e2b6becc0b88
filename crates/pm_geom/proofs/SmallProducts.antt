-- The products of the row (2) with itself are made within the range.
use Rattle.pm_vector.specs.Numbers.{InRange}
use Rattle.pm_vector.specs.Products.{ProductsStay}
use Rattle.pm_vector.specs.Rows.{dot, entry}
use Rattle.std.proofs.Common.{arith, suc, take, zero}
use Rattle.std.specs.Prelude.{[], ℕ, ◌∷◌}
use lib.IntN.{pos, ◌*ℤ◌}

pub four_stays : ProductsStay (pos 2 ∷ []) (pos 2 ∷ [])
four_stays = record { products = products; sums = sums }
  where
    products : (i : ℕ) → InRange (entry (pos 2 ∷ []) i *ℤ entry (pos 2 ∷ []) i)
    products zero = omega arith
    products (suc i) = omega arith

    sums : (k : ℕ) → InRange (dot (take k (pos 2 ∷ [])) (take k (pos 2 ∷ [])))
    sums zero = omega arith
    sums (suc zero) = omega arith
    sums (suc (suc k)) = omega arith
