-- The order in which double description takes the rows of a list, when a refusal is to be shown: first those that
-- enlarge the span.
use Rattle.std.specs.Prelude.{ℕ, ◌≡◌, ◌≤◌, Bool, true, false, cond, List, [], ◌∷◌, ◌++◌, length}
use Rattle.std.specs.Bool.{beq}
use Rattle.pm_vector.specs.Rows.{Row}
use Rattle.pm_vector.specs.Bases.{IsRank}
use Rattle.pm_vector.specs.Enlarging.{MarkEnlarging}

-- the rows of X whose mark is b, in list order
abbrev pub rows_marked : Bool → List Bool → List Row → List Row
rows_marked b [] X = []
rows_marked b (m ∷ marks) [] = []
rows_marked b (m ∷ marks) (x ∷ X) = cond (beq b m) (x ∷ rows_marked b marks X) (rows_marked b marks X)

-- Y has first, in list order, the rows of X that enlarge the span of those before them, and then all others in list
-- order
pub record IsStatedOrder (X Y : List Row) : Type 0 where
  pub marks : List Bool
  pub enlarging : MarkEnlarging X marks
  pub ordered : Y ≡ rows_marked true marks X ++ rows_marked false marks X

-- Y is the stated order of X, and its first f rows are at least as many as those that enlarge the span
pub record IsStatedFront (X Y : List Row) (f : ℕ) : Type 0 where
  pub stated : IsStatedOrder X Y
  pub enough : (d : ℕ) → IsRank X d → d ≤ f
  pub within : f ≤ length Y
