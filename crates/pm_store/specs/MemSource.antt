-- A source in memory, as its callers see it.
use Rattle.std.specs.Prelude.{ℕ, min, List, drop, length}
use Rattle.pm_store.specs.Outside.{next_count}

-- The bytes that are left, the most that one call gives, the numbers of the calls that fail,
-- how many calls there were, which is the number of the next one, and how many of them failed.
pub record SourceState : Type 0 where
  pub left : List ℕ
  pub piece : ℕ
  pub failing : List ℕ
  pub calls : ℕ
  pub faults : ℕ

-- how many bytes a call gives into a buffer of this length, unless it fails
abbrev pub given : SourceState → ℕ → ℕ
given s room = min (length s.left) (min s.piece room)

-- after a call that gave k bytes
abbrev pub after_giving : SourceState → ℕ → SourceState
after_giving s k = record s { left = drop k s.left; calls = next_count s.calls }

-- after a call that failed
abbrev pub after_fault : SourceState → SourceState
after_fault s = record s { calls = next_count s.calls; faults = next_count s.faults }
