-- In which order the rows of a list are taken.
use Rattle.std.specs.Prelude.{ℕ, ◌*◌, ◌≡◌, ◌≤◌, Bool, true, false, List, [], ◌∷◌, ◌++◌, drop, length, map, take}
use Rattle.pm_vector.specs.Rows.{Row, opposite}
use Rattle.pm_vector.specs.Enlarging.{MarkEnlarging}
use Rattle.pm_geom.specs.StatedOrder.{rows_marked}
use Rattle.pm_dd.specs.Fronts.{both_signs}

-- the stated order of X is the equations E, the first `start` rows of J, the opposites of E, and the other rows of J
pub record IsArrangement (X E J : List Row) (start : ℕ) : Type 0 where
  pub marks : List Bool
  pub enlarging : MarkEnlarging X marks
  pub within : start ≤ length J
  pub first : rows_marked true marks X ≡ E ++ take start J
  pub others : rows_marked false marks X ≡ map opposite E ++ drop start J

-- the marks true and false in turn, once for each row of E
abbrev pub alternating : List Row → List Bool
alternating [] = []
alternating (l ∷ E) = true ∷ false ∷ alternating E

-- X begins with each row of E and its opposite, of which the first enlarges the span
pub record Leads (X : List Row) (marks : List Bool) (E : List Row) : Type 0 where
  pub within : 2 * length E ≤ length X
  pub rows : X ≡ both_signs E ++ drop (2 * length E) X
  pub marked : marks ≡ alternating E ++ drop (2 * length E) marks
