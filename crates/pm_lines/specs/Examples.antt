-- Lines as they come, worked by hand: what holds, and what does not. 10 is LF.
use Rattle.std.specs.Prelude.{◌≡◌, ℕ, true, false, List, [], ◌∷◌, Some}
use Rattle.pm_command.specs.Lines.{Line}
use Rattle.pm_lines.specs.Coming.{Answers, BreaksOff, Exceeds, IsOver, LetsGo, ReaderSeen, no_line}
use Rattle.pm_lines.specs.Whole.{whole_lines}

abbrev pub ended_line : List ℕ → Line
ended_line bytes = record { bytes = bytes; ended = true }

abbrev pub last_line : List ℕ → Line
last_line bytes = record { bytes = bytes; ended = false }

-- a reader at its beginning, one with two bytes and an LF given, and one with a line at hand
abbrev pub fresh : ReaderSeen
fresh = record { line = no_line; given = []; read = 0; at_end = false }

abbrev pub with_line : ReaderSeen
with_line = record { line = ended_line (1 ∷ []); given = 2 ∷ []; read = 3; at_end = false }

abbrev pub with_last : ReaderSeen
with_last = record { line = last_line (2 ∷ 3 ∷ []); given = []; read = 4; at_end = true }

abbrev pub cut_line : ReaderSeen
cut_line = record { line = last_line (2 ∷ []); given = []; read = 3; at_end = true }

-- one whose line was let go, with a byte given behind it, and one with none
abbrev pub let_go : ReaderSeen
let_go = record { line = no_line; given = 3 ∷ []; read = 4; at_end = false }

abbrev pub with_nothing : ReaderSeen
with_nothing = record { line = no_line; given = []; read = 4; at_end = false }

pub record LinesAreWhole : Type 0 where
  pub none : whole_lines (1 ∷ 2 ∷ []) ≡ []
  pub one : whole_lines (1 ∷ 10 ∷ 2 ∷ []) ≡ ended_line (1 ∷ []) ∷ []
  pub empty : whole_lines (10 ∷ 10 ∷ []) ≡ ended_line [] ∷ ended_line [] ∷ []

pub record LinesCome : Type 0 where
  -- three bytes are given at once, and then one more, of which the end of the script makes a line
  pub ended : Answers (1 ∷ 10 ∷ 2 ∷ 3 ∷ []) (Some (3 ∷ [])) fresh with_line
  pub last : Answers (3 ∷ []) (Some []) with_line with_last
  pub over : IsOver [] (Some []) fresh
  -- no line is cut where more is left, and none is over that has bytes
  pub cut : ¬ (Answers (3 ∷ []) (Some (3 ∷ [])) with_line cut_line)
  pub not_over : ¬ (IsOver [] (Some []) with_line)
  -- a source that fails gave no LF, and none is too long that is short
  pub breaks : BreaksOff (3 ∷ 4 ∷ []) (Some (4 ∷ [])) with_line with_last
  pub breaks_late : ¬ (BreaksOff (10 ∷ 4 ∷ []) (Some (4 ∷ [])) with_line with_last)
  -- where memory runs out what was given of the line is gone, and no LF is
  pub lets_go : LetsGo (3 ∷ 4 ∷ []) (Some (4 ∷ [])) with_line let_go
  pub keeps_breaks : ¬ (LetsGo (10 ∷ 4 ∷ []) (Some (4 ∷ [])) with_line with_nothing)
  pub short : ¬ (Exceeds (3 ∷ []) (Some []) fresh)
