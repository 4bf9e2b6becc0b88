-- Echelon bases, as values.
use Rattle.pm_vector.specs.Rows.{Row}
use Rattle.pm_vector.specs.Bases.{IsEchelonBasis}
use Rattle.std.specs.Prelude.{List, ℕ}

-- the rows of a basis and their pivot columns
pub record BasisRows : Type 0 where
  pub rows : List Row
  pub pivots : List ℕ

-- R, with pivot columns P, is an echelon basis of rows with some number of entries
abbrev pub IsSomeEchelonBasis : List Row → List ℕ → Type 0
IsSomeEchelonBasis R P = (n : ℕ) × IsEchelonBasis n R P
