-- How the lines of a script lie.
use Rattle.std.specs.Prelude.{◌≡◌, ℕ, ◌≤◌, not, List, ◌++◌, filter, length}
use Rattle.pm_command.specs.Lines.{Line, lines_of}
use Rattle.pm_lines.specs.Whole.{whole_lines}

-- the lines of a script that no LF ended
abbrev pub open_lines : List ℕ → List Line
open_lines bytes = filter (λ line. not line.ended) (lines_of bytes)

-- The lines of any script are those that an LF ended, and after them at most one that none did.
pub record WholeLinesFirst (bytes : List ℕ) : Type 0 where
  pub lines : lines_of bytes ≡ whole_lines bytes ++ open_lines bytes
  pub last : length (open_lines bytes) ≤ 1
