-- A reader of lines, and what the next of its calls may answer.
use Rattle.std.specs.Prelude.{◌≡◌, ℕ, ◌+◌, ◌<◌, ◌≤◌, Bool, true, false, List, [], ◌∷◌, ◌++◌, take, drop, length, Option, Some}
use Rattle.pm_command.specs.Lines.{Line, lines_of}
use Rattle.pm_lines.specs.Whole.{HasNoBreak, whole_lines}
use Rattle.pm_limits.specs.Limits.{most_script_bytes}

-- The line at hand, the bytes that the source gave and that stand in no line yet, how many it gave in all,
-- and whether it said that nothing is left.
pub record ReaderSeen : Type 0 where
  pub line : Line
  pub given : List ℕ
  pub read : ℕ
  pub at_end : Bool

-- so many bytes are read at most before the lines that they end are answered
abbrev pub most_ahead : ℕ
most_ahead = 4096

-- the line at hand before the first one
abbrev pub no_line : Line
no_line = record { bytes = []; ended = false }

-- Of all that the source had left, n bytes more were given.
pub record Gave (n : ℕ) (all : List ℕ) (left : Option (List ℕ)) (old new : ReaderSeen) : Type 0 where
  pub within : n ≤ length all
  pub others : left ≡ Some (drop n all)
  pub read : new.read ≡ old.read + n

-- The line at hand is the first of what was given and is left. One that an LF ended has the bytes that were given up
-- to it; one that the end of the script ended is the last.
pub record HasNext (n : ℕ) (all : List ℕ) (old new : ReaderSeen) : Type 0 where
  pub lines : lines_of (old.given ++ all) ≡ new.line ∷ lines_of (new.given ++ drop n all)
  pub clear : HasNoBreak new.line.bytes
  pub bytes : new.line.ended ≡ true → old.given ++ take n all ≡ new.line.bytes ++ 10 ∷ new.given
  pub last : new.line.ended ≡ false → (new.given ≡ []) × (drop n all ≡ [])

-- the next line is at hand
abbrev pub Answers : List ℕ → Option (List ℕ) → ReaderSeen → ReaderSeen → Type 0
Answers all left old new = (n : ℕ) × Gave n all left old new × HasNext n all old new

-- no line is left
abbrev pub IsOver : List ℕ → Option (List ℕ) → ReaderSeen → Type 0
IsOver all left old = (old.given ≡ []) × (all ≡ []) × (left ≡ Some [])

-- the source failed, and no LF was given
abbrev pub BreaksOff : List ℕ → Option (List ℕ) → ReaderSeen → ReaderSeen → Type 0
BreaksOff all left old new = (n : ℕ) × Gave n all left old new × (whole_lines (old.given ++ take n all) ≡ [])

-- the source gave a byte after the most, and no LF was given before
abbrev pub Exceeds : List ℕ → Option (List ℕ) → ReaderSeen → Type 0
Exceeds all left old = (n : ℕ) × (n < length all) × (left ≡ Some (drop (n + 1) all))
    × (old.read + n ≡ most_script_bytes) × (whole_lines (old.given ++ take n all) ≡ [])

-- Memory ran out: of the bytes that were given those before the ones at hand are gone, and none of them is an LF.
pub record LetsGo (all : List ℕ) (left : Option (List ℕ)) (old new : ReaderSeen) : Type 0 where
  pub n : ℕ
  pub gone : List ℕ
  pub gave : Gave n all left old new
  pub clear : HasNoBreak gone
  pub bytes : old.given ++ take n all ≡ gone ++ new.given

-- Of all that the source had left, it gave some first bytes more, and nothing else was changed.
pub record Refilled (all : List ℕ) (left : Option (List ℕ)) (old new : ReaderSeen) : Type 0 where
  pub some : 0 < length new.given
  pub within : length new.given ≤ length all
  pub given : new.given ≡ take (length new.given) all
  pub others : left ≡ Some (drop (length new.given) all)

-- The bytes that were given, up to the first LF, were added to the line at hand.
pub record Ended (old new : ReaderSeen) (part : List ℕ) : Type 0 where
  pub clear : HasNoBreak part
  pub given : old.given ≡ part ++ 10 ∷ new.given
  pub line : new.line ≡ record { bytes = old.line.bytes ++ part; ended = true }
