-- The lines of a script.
use Rattle.std.specs.Prelude.{ℕ, ◌==◌, ◌||◌, Bool, true, false, List, [], ◌∷◌, length, nat_lt, if◌then◌else◌}
use Rattle.std.specs.List.{list_all}
use Rattle.pm_limits.specs.Limits.{most_line_bytes}

-- the bytes before the line's LF, or before the end of the script, and whether an LF ended it
pub record Line : Type 0 where
  pub bytes : List ℕ
  pub ended : Bool

-- b stands before the first line, or is a line of its own
abbrev pub onto_first : ℕ → List Line → List Line
onto_first b [] = record { bytes = b ∷ []; ended = false } ∷ []
onto_first b (line ∷ lines) = record line { bytes = b ∷ line.bytes } ∷ lines

-- the lines of a script; the last one counts also without an LF
abbrev pub lines_of : List ℕ → List Line
lines_of [] = []
lines_of (b ∷ bytes) = if b == 10 then record { bytes = []; ended = true } ∷ lines_of bytes
    else onto_first b (lines_of bytes)

abbrev pub without_last_cr : List ℕ → List ℕ
without_last_cr [] = []
without_last_cr (b ∷ []) = if b == 13 then [] else b ∷ []
without_last_cr (b ∷ c ∷ bytes) = b ∷ without_last_cr (c ∷ bytes)

-- the line's bytes without the CR that stands just before its LF
abbrev pub text_of : Line → List ℕ
text_of line = if line.ended then without_last_cr line.bytes else line.bytes

-- the line has more than most_line_bytes bytes, a CR counted
abbrev pub is_too_long : Line → Bool
is_too_long line = nat_lt most_line_bytes (length line.bytes)

abbrev pub is_blank : List ℕ → Bool
is_blank text = list_all (λ b. b == 32 || b == 9) text

-- the text is blank (spaces and tabs alone), or its first byte is #: such a line has no reply
abbrev pub is_silent : List ℕ → Bool
is_silent [] = true
is_silent (b ∷ text) = b == 35 || is_blank (b ∷ text)
