use Rattle.pm_vector.specs.Cones.{InSpan}
use Rattle.pm_vector.specs.Rows.{Row}
use Rattle.pm_vector.specs.Bases.{row_at}
use Rattle.std.specs.Prelude.{Bool, IsTrue, List, false, length, slice_index_or, take, ℕ, ◌<◌, ◌≡◌, ◌↔◌}

-- one mark for each row of X, true where the row is not in the span of those before it
pub record MarkEnlarging (X : List Row) (marks : List Bool) : Type 0 where
  pub as_many : length marks ≡ length X
  pub exact : (i : ℕ) → i < length X → IsTrue (slice_index_or marks i false)
      ↔ ¬ (InSpan (take i X) (row_at X i))
