-- Rows that have so many entries at each place.
use Rattle.pm_vector.specs.Rows.{HasCols, Row}
use Rattle.std.proofs.Common.{arith, get_or}
use Rattle.std.specs.Prelude.{ℕ, suc, List, [], ◌∷◌, length, ◌<◌, ◌≡◌}

pub cols_by_place : (n : ℕ) (X : List Row) → ((j : ℕ) → j < length X → length (get_or X j []) ≡ n) → HasCols n X
cols_by_place n [] h = tt
cols_by_place n (x ∷ X) h = (h 0 (omega arith), cols_by_place n X (λ j l. h (suc j) (omega arith)))
