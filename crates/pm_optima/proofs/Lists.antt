-- Rows of a list by their places, and products with them.
use Rattle.pm_vector.proofs.Lists.{Among, here, there}
use Rattle.pm_vector.specs.Rows.{HasCols, Row, dot, entry}
use Rattle.pm_vector.specs.Bases.{row_at}
use Rattle.std.proofs.Common.{ap, arith, refl, suc, zero}
use Rattle.std.specs.Prelude.{List, [], get_or, length, map, ℕ, ◌<◌, ◌∷◌, ◌≡◌}

pub among_place : {x : Row} {X : List Row} → Among x X → (j : ℕ) × (j < length X) × (row_at X j ≡ x)
among_place here = (0, omega arith, refl)
among_place (there i) = let (j, l, e) = among_place i in (suc j, omega arith, e)

pub place_among : (X : List Row) (j : ℕ) → j < length X → Among (row_at X j) X
place_among [] j l = absurd (omega arith)
place_among (x ∷ X) zero l = here
place_among (x ∷ X) (suc j) l = there (place_among X j (omega arith))

pub product_at : (w : Row) (X : List Row) (j : ℕ) → j < length X → entry (map (dot w) X) j ≡ dot w (row_at X j)
product_at w [] j l = absurd (omega arith)
product_at w (x ∷ X) zero l = refl
product_at w (x ∷ X) (suc j) l = product_at w X j (omega arith)

pub products_length : (w : Row) (X : List Row) → length (map (dot w) X) ≡ length X
products_length w [] = refl
products_length w (x ∷ X) = ap suc (products_length w X)

-- rows of as many entries as a row that has some have some
pub some_entries : (n : ℕ) (X : List Row) → 0 < n → HasCols n X → (k : ℕ) (d : Row) → k < length X → 0 < length (get_or X k d)
some_entries n [] some cols k d l = absurd (omega arith)
some_entries n (x ∷ X) some cols zero d l = let e = cols.0 in omega arith
some_entries n (x ∷ X) some cols (suc k) d l = some_entries n X some cols.1 k d (omega arith)
