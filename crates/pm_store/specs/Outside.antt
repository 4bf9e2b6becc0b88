-- What a source gives, what a sink takes, and the count of their faults.
use Rattle.std.specs.Prelude.{◌≡◌, ◌≢◌, ℕ, ◌<◌, ◌≤◌, ◌+◌, ◌-◌, ◌^◌, min, List, [], ◌++◌, take, drop, length, Option, Some, IfSome}

-- A count of faults rose, or it stands at u64::MAX.
abbrev pub Rose : ℕ → ℕ → Type 0
Rose old new = new + 1 ≢ 2 ^ 64 → old < new

-- One more, for a count that stays at u64::MAX once it stands there.
abbrev pub next_count : ℕ → ℕ
next_count count = min (count + 1) (2 ^ 64 - 1)

-- The bytes that are told, if they are, are the same as before.
abbrev pub StaysTold : Option (List ℕ) → Option (List ℕ) → Type 0
StaysTold old new = IfSome old (λ all. new ≡ Some all)

-- Of what is told to be left, if it is, the first k bytes moved to the front of the buffer, and the others are left.
abbrev pub Moves : Option (List ℕ) → Option (List ℕ) → ℕ → List ℕ → Type 0
Moves old new k buf =
    IfSome old (λ all. (k ≤ length all) × (take k buf ≡ take k all) × (new ≡ Some (drop k all)))

-- Of what is told to be left, if it is, nothing is left.
abbrev pub IsAtEnd : Option (List ℕ) → Type 0
IsAtEnd left = IfSome left (λ all. all ≡ [])

-- Of what was told to be left, if it was, some first bytes are gone, and the others are left.
abbrev pub LosesTold : Option (List ℕ) → Option (List ℕ) → Type 0
LosesTold old new = IfSome old (λ all. (n : ℕ) × (new ≡ Some (drop n all)))

-- To what was told to be taken, if it was, these bytes were added.
abbrev pub GainsTold : Option (List ℕ) → Option (List ℕ) → List ℕ → Type 0
GainsTold old new bytes = IfSome old (λ had. new ≡ Some (had ++ bytes))

-- To what was told to be taken, if it was, some first bytes of these were added, and not all of them.
abbrev pub GainsPart : Option (List ℕ) → Option (List ℕ) → List ℕ → Type 0
GainsPart old new bytes =
    IfSome old (λ had. (n : ℕ) × (n < length bytes) × (new ≡ Some (had ++ take n bytes)))
