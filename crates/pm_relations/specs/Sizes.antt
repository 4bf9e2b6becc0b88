-- Sizes that are read off from sets of places.
use Rattle.std.specs.Prelude.{ℕ, ◌+◌, Bool, List, [], ◌∷◌, if◌then◌else◌, length, map, nat_eq}
use Rattle.std.specs.List.{list_any, range_with_len}
use lib.IntN.{ℤ, pos}

-- whether the set has the place
abbrev pub has_place : ℕ → List ℕ → Bool
has_place j set = list_any (λ k. nat_eq k j) set

-- how many of the sets have the place
abbrev pub holding : List (List ℕ) → ℕ → ℕ
holding [] j = 0
holding (set ∷ rows) j = (if has_place j set then 1 else 0) + holding rows j

-- for each place below n how many of the sets have it
abbrev pub place_sizes : List (List ℕ) → ℕ → List ℤ
place_sizes rows n = map (λ j. pos (holding rows j)) (range_with_len 0 n)

-- how many places each of the sets has
abbrev pub set_sizes : List (List ℕ) → List ℤ
set_sizes rows = map (λ set. pos (length set)) rows
