-- The directions of rows read on rows of one and two entries: what holds of them, and what does not.
use Rattle.pm_vector.specs.Numbers.{Ratio}
use Rattle.pm_vector.specs.Rows.{Row, SameDirection, Stands}
use Rattle.std.specs.Prelude.{List, [], ℕ, ◌∷◌}
use lib.IntN.{ℤ, negsuc, pos}

-- the row (a, b) of whole numbers
abbrev pub pair : ℤ → ℤ → Row
pair a b = a ∷ b ∷ []

-- the row (a/b, c/d) of fractions
abbrev pub fractions : ℕ → ℕ → ℕ → ℕ → List Ratio
fractions a b c d = record { num = pos a; den = pos b } ∷ record { num = pos c; den = pos d } ∷ []

-- which rows have one direction, and which whole rows stand for which rows of fractions
pub record DirectionsAreRead : Type 0 where
  -- (1,2) and (2,4) have one direction, (1,2) and (-1,-2) have not
  pub twice : SameDirection (pair (pos 1) (pos 2)) (pair (pos 2) (pos 4))
  pub turned : ¬ (SameDirection (pair (pos 1) (pos 2)) (pair (negsuc 0) (negsuc 1)))
  -- (2,4) stands for (1/1, 2/1), and (1,2) for (2/1, 4/1)
  pub multiple : Stands (fractions 1 1 2 1) (pair (pos 2) (pos 4))
  pub part : Stands (fractions 2 1 4 1) (pair (pos 1) (pos 2))
  -- for (1/2, 1/3) stands (3,2), but neither (3,3) nor (-3,-2)
  pub halves : Stands (fractions 1 2 1 3) (pair (pos 3) (pos 2))
  pub another : ¬ (Stands (fractions 1 2 1 3) (pair (pos 3) (pos 3)))
  pub opposite : ¬ (Stands (fractions 1 2 1 3) (pair (negsuc 2) (negsuc 1)))
  -- nor a row that is longer or shorter
  pub longer : ¬ (Stands (fractions 1 2 1 3) (pos 3 ∷ pos 2 ∷ pos 0 ∷ []))
  pub shorter : ¬ (Stands (fractions 1 1 0 1) (pos 1 ∷ []))
  -- no row stands for (1/0, 2/1), where a denominator is not positive
  pub no_fraction : (x : Row) → ¬ (Stands (fractions 1 0 2 1) x)
