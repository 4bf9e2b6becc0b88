-- The rays of a set of places.
use Rattle.pm_vector.specs.Rows.{Row}
use Rattle.std.specs.Prelude.{ℕ, suc, Bool, true, false, List, [], ◌∷◌}

-- v before W where the test says so
abbrev pub keep : Bool → Row → List Row → List Row
keep true v W = v ∷ W
keep false v W = W

-- the rows of V at the places of f
abbrev pub chosen : (ℕ → Bool) → List Row → List Row
chosen f [] = []
chosen f (v ∷ V) = keep (f 0) v (chosen (λ j. f (suc j)) V)
