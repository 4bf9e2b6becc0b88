-- Rows with a number each: the greatest quotient of a number by the first entry of its row, and numbers that tell of
-- a direction without bound.
use Rattle.pm_vector.specs.Rows.{Row, entry}
use Rattle.pm_vector.specs.Bases.{row_at}
use Rattle.pm_fraction.specs.Fractions.{IsLowestTermsOf, ratio_of}
use Rattle.pm_optima.specs.declared.quotients.Best.{Best}
use Rattle.std.specs.Prelude.{List, None, Option, Some, length, ℕ, ◌<◌, ◌≡◌, ◌⊎◌}
use lib.IntN.{pos, ◌*ℤ◌}
use lib.Signed.{◌<ℤ◌, ◌≤ℤ◌}

-- of the first k rows V with a positive first entry, the one at that place has the greatest quotient
pub record IsBest (numbers : Row) (V : List Row) (k : ℕ) (b : Best) : Type 0 where
  pub within : b.place < k
  pub first : pos 0 <ℤ entry (row_at V b.place) 0
  pub quotient : IsLowestTermsOf (ratio_of (entry numbers b.place) (entry (row_at V b.place) 0)) b.quotient
  pub greatest : (j : ℕ) → j < k → pos 0 <ℤ entry (row_at V j) 0
      → (entry numbers j *ℤ b.quotient.den) ≤ℤ (b.quotient.num *ℤ entry (row_at V j) 0)

-- none of the first k rows has a positive first entry
abbrev pub HasNone : List Row → ℕ → Type 0
HasNone V k = (j : ℕ) → j < k → ¬ (pos 0 <ℤ entry (row_at V j) 0)

-- the best of the first k rows, if one has a positive first entry
abbrev pub IsBestOf : Row → List Row → ℕ → Option Best → Type 0
IsBestOf numbers V k (Some b) = IsBest numbers V k b
IsBestOf numbers V k None = HasNone V k

-- the row at that place has the first entry 0 and a positive number
pub record Rises (numbers : Row) (V : List Row) (j : ℕ) : Type 0 where
  pub within : j < length V
  pub level : entry (row_at V j) 0 ≡ pos 0
  pub positive : pos 0 <ℤ entry numbers j

-- the number at that place is not 0
pub record Turns (numbers : Row) (j : ℕ) : Type 0 where
  pub within : j < length numbers
  pub some : ¬ (entry numbers j ≡ pos 0)

-- of the rays V, with their numbers, or of the lines' numbers, one tells of a direction without bound
abbrev pub Grows : Row → List Row → Row → Type 0
Grows at_rays V at_lines = ((j : ℕ) × Rises at_rays V j) ⊎ ((j : ℕ) × Turns at_lines j)
