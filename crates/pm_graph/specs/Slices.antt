-- What slices of lists hold.
use Rattle.pm_types.specs.Lists.{lists_of}
use Rattle.std.specs.Global.{Vec}
use Rattle.std.specs.Prelude.{ℕ, List, map}

-- the lists of numbers in a slice
abbrev pub rows_of : List (Vec ℕ) → List (List ℕ)
rows_of rows = map (λ row. row.items) rows

-- the lists of lists of numbers in a slice
abbrev pub ranks_of : List (Vec (Vec ℕ)) → List (List (List ℕ))
ranks_of ranks = map lists_of ranks
