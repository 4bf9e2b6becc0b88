-- The greatest of some numbers.
use Rattle.std.specs.Prelude.{◌≡◌, List, [], ◌∷◌}
use Rattle.std.specs.List.{All, Contains}
use lib.IntN.{ℤ, negsuc}
use lib.Signed.{◌≤ℤ◌}

-- k is one of the numbers, and none is greater; where there is none, k is -1
abbrev pub IsMost : List ℤ → ℤ → Type 0
IsMost [] k = k ≡ negsuc 0
IsMost (z ∷ ks) k = Contains (z ∷ ks) k × All (λ y. y ≤ℤ k) (z ∷ ks)
