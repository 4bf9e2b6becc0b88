-- What the dimensions of the cones of a fan tell, and how many rays each has.
use Rattle.std.specs.Prelude.{ℕ, ◌≡◌, List, [], ◌∷◌, length}
use Rattle.std.specs.List.{All}
use lib.IntN.{ℤ, pos, ◌+ℤ◌}

-- all numbers are one
abbrev pub AreOne : List ℤ → Type 0
AreOne ks = (k : ℤ) × All (λ z. z ≡ k) ks

-- as many numbers as sets, and each is l more than how many places its set has
abbrev pub AreSimplices : ℤ → List (List ℕ) → List ℤ → Type 0
AreSimplices l [] [] = Unit {0}
AreSimplices l [] (k ∷ ks) = ⊥
AreSimplices l (set ∷ sets) [] = ⊥
AreSimplices l (set ∷ sets) (k ∷ ks) = (k ≡ pos (length set) +ℤ l) × AreSimplices l sets ks
