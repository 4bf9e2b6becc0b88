-- What lists in memory hold.
use Rattle.std.specs.Global.{Vec}
use Rattle.std.specs.Prelude.{ℕ, List, map}

-- the lists of numbers that a list of lists holds
abbrev pub lists_of : Vec (Vec ℕ) → List (List ℕ)
lists_of v = map (λ list. list.items) v.items
