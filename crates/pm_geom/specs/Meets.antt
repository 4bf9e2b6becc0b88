-- Intersections of sets of places by rank, and what shows that there are too many of them.
use Rattle.pm_geom.specs.FaceCounts.{IsLexBefore, SamePlaces, at_rank}
use Rattle.pm_geom.specs.Faces.{IsStrictlyIn}
use Rattle.pm_geom.specs.Graphs.{IsAscending, holds}
use Rattle.std.specs.List.{All, AllPairs, Contains, sum_by}
use Rattle.std.specs.Prelude.{ℕ, zero, suc, ◌≡◌, ◌<◌, ◌≤◌, ◌↔◌, ◌⊎◌, Bool, IsTrue, List, [], length}
use Rattle.pm_limits.specs.Limits.{most_faces, most_places}

-- f is a meet of the sets: the intersection of some of them, or, of none of them, the set of all places below m
pub record IsMeet (m : ℕ) (sets : List (ℕ → Bool)) (f : ℕ → Bool) : Type 0 where
  pub some : List (ℕ → Bool)
  pub among : (r : ℕ → Bool) → Contains some r → Contains sets r
  pub places : (j : ℕ) → j < m → IsTrue (f j) ↔ All (λ r. IsTrue (r j)) some

-- k meets of the sets, each strictly included in the next and the last one in f
abbrev pub HasMeetChain : ℕ → List (ℕ → Bool) → ℕ → (ℕ → Bool) → Type 0
HasMeetChain m sets zero f = Unit {0}
HasMeetChain m sets (suc k) f = (g : ℕ → Bool) × IsMeet m sets g × IsStrictlyIn m g f
    × HasMeetChain m sets k g

-- f is a meet of the sets, and k is the greatest number of strict inclusions of meets below it (Ziegler, section 2.2:
-- its rank)
pub record HasMeetRank (m : ℕ) (sets : List (ℕ → Bool)) (f : ℕ → Bool) (k : ℕ) : Type 0 where
  pub meet : IsMeet m sets f
  pub chain : HasMeetChain m sets k f
  pub greatest : ¬ (HasMeetChain m sets (suc k) f)

-- all meets of the sets by rank, as rising lists of places, those of one rank in lexicographic order; no rank up to
-- the last is without
pub record AreMeetsByRank (m : ℕ) (sets : List (ℕ → Bool)) (ranks : List (List (List ℕ))) : Type 0 where
  pub each : (k : ℕ) (xs : List ℕ) → Contains (at_rank ranks k) xs
      → IsAscending m xs × HasMeetRank m sets (holds xs) k
  pub all : (g : ℕ → Bool) → IsMeet m sets g → (k : ℕ) × (xs : List ℕ) × Contains (at_rank ranks k) xs
      × SamePlaces m g (holds xs)
  pub ordered : (k : ℕ) → AllPairs IsLexBefore (at_rank ranks k)
  pub full : All (λ faces. ¬ (faces ≡ [])) ranks

-- at most most_faces faces, and at most most_places places in all of them together: what a lattice may have
abbrev pub IsSmallLattice : List (List (List ℕ)) → Type 0
IsSmallLattice ranks = (sum_by length ranks ≤ most_faces) × (sum_by (sum_by length) ranks ≤ most_places)

-- different meets of the sets, which are more than a lattice may have
pub record AreTooManyMeets (m : ℕ) (sets : List (ℕ → Bool)) (faces : List (List ℕ)) : Type 0 where
  pub each : All (λ xs. IsAscending m xs × IsMeet m sets (holds xs)) faces
  pub different : AllPairs (λ xs ys. ¬ (xs ≡ ys)) faces
  pub many : (most_faces < length faces) ⊎ (most_places < sum_by length faces)
