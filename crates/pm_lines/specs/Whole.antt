-- The lines that an LF ended.
use Rattle.std.specs.Prelude.{ℕ, ◌≢◌, List, [], ◌∷◌, filter}
use Rattle.pm_command.specs.Lines.{Line, lines_of}

-- the lines of a script that an LF ended
abbrev pub whole_lines : List ℕ → List Line
whole_lines bytes = filter (λ line. line.ended) (lines_of bytes)

-- none of the bytes is an LF
abbrev pub HasNoBreak : List ℕ → Type 0
HasNoBreak [] = Unit {0}
HasNoBreak (b ∷ bytes) = (b ≢ 10) × HasNoBreak bytes
