-- Greatest values of small programs: which have one, and which not; and what a search goes by.
use Rattle.pm_vector.specs.Rows.{Row}
use Rattle.pm_dual.specs.Exact.{HasMaximum}
use Rattle.pm_dual.specs.SearchObjectives.{IsSearchObjective}
use Rattle.pm_geom.specs.ProgramExamples.{nothing, positive_line, row, segment, wholes}
use Rattle.pm_geom.specs.Programs.{HasNoPoint, IsWithoutBound, Solves}
use Rattle.std.specs.Prelude.{[], ◌↔◌, ◌≡◌}
use lib.IntN.{pos}

pub record MaximaAreRead : Type 0 where
  -- x on the segment from 0 to 1, on the half-line from 0, and where there is no point
  pub segment_has : HasMaximum (Solves segment []) (wholes (row (pos 0) (pos 1)))
  pub segment_bounded : ¬ (IsWithoutBound (Solves segment []) (wholes (row (pos 0) (pos 1))))
  pub line_has_none : ¬ (HasMaximum (Solves positive_line []) (wholes (row (pos 0) (pos 1))))
  pub line_has_point : ¬ (HasNoPoint (Solves positive_line []))
  pub nothing_has_none : ¬ (HasMaximum (Solves nothing []) (wholes (row (pos 0) (pos 1))))
  pub nothing_bounded : ¬ (IsWithoutBound (Solves nothing []) (wholes (row (pos 0) (pos 1))))

pub record SearchObjectivesAreRead : Type 0 where
  -- for 2 x itself, for the constant 5 ones
  pub itself : (w : Row) → IsSearchObjective (row (pos 0) (pos 2)) w ↔ w ≡ row (pos 0) (pos 2)
  pub ones : (w : Row) → IsSearchObjective (row (pos 5) (pos 0)) w ↔ w ≡ row (pos 1) (pos 1)
