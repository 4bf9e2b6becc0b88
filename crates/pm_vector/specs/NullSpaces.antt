-- Null spaces.
use Rattle.pm_vector.specs.Cones.{InSpan}
use Rattle.pm_vector.specs.Rows.{Row, dot}
use Rattle.pm_vector.specs.Bases.{IsEchelonBasis}
use Rattle.std.specs.List.{AllByRecursion}
use Rattle.std.specs.Prelude.{List, length, ℕ, ◌↔◌, ◌≡◌}
use lib.IntN.{pos}

-- x has product 0 with each of the rows
abbrev pub IsNull : List Row → Row → Type 0
IsNull rows x = AllByRecursion (λ a. dot a x ≡ pos 0) rows

-- N, with pivot columns P, is the echelon basis of all x of n entries that have product 0 with each of the rows
pub record IsNullBasis (n : ℕ) (rows N : List Row) (P : List ℕ) : Type 0 where
  pub echelon : IsEchelonBasis n N P
  pub null : (x : Row) → length x ≡ n → InSpan N x ↔ IsNull rows x
