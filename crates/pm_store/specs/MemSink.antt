-- A sink in memory, as its callers see it.
use Rattle.std.specs.Prelude.{◌≡◌, ℕ, ◌<◌, ◌-◌, min, List, ◌++◌, length, Contains, ◌⊎◌}
use Rattle.pm_store.specs.Outside.{next_count}

-- The bytes that were taken, the most that are taken in all, the numbers of the calls that fail,
-- how many calls there were, which is the number of the next one, and how many of them failed.
pub record SinkState : Type 0 where
  pub taken : List ℕ
  pub room : ℕ
  pub failing : List ℕ
  pub calls : ℕ
  pub faults : ℕ

-- The next call fails with this piece: its number is listed, or there is no room for any of the piece.
abbrev pub RefusesBytes : SinkState → List ℕ → Type 0
RefusesBytes s piece = Contains s.failing s.calls ⊎ ((length s.taken ≡ s.room) × (0 < length piece))

-- how many bytes of a piece of this length a call takes, unless it fails
abbrev pub accepted : SinkState → ℕ → ℕ
accepted s len = min (s.room - length s.taken) len

-- after a call that took these bytes
abbrev pub after_taking : SinkState → List ℕ → SinkState
after_taking s bytes = record s { taken = s.taken ++ bytes; calls = next_count s.calls }

-- after a call that failed
abbrev pub after_fault : SinkState → SinkState
after_fault s = record s { calls = next_count s.calls; faults = next_count s.faults }
