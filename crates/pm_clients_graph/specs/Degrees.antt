-- The degrees of a graph's nodes.
use Rattle.std.specs.Prelude.{ℕ, List, length, map}
use lib.IntN.{ℤ, pos}

-- how many neighbours each node has (Diestel, Graph Theory, section 1.2)
abbrev pub degrees : List (List ℕ) → List ℤ
degrees rows = map (λ row. pos (length row)) rows
