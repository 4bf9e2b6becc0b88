-- Ranks of all meets of rows. Rows and faces are rows of bits of one length m.
use Rattle.pm_bits.specs.Sets.{has, member_count, members}
use Rattle.pm_bits.specs.Table.{Table}
use Rattle.pm_geom.specs.Meets.{HasMeetRank}
use Rattle.pm_lattice.specs.Closures.{bit_sets}
use Rattle.pm_lattice.specs.declared.ranks.SizeRank.{SizeRank}
use Rattle.pm_lattice.specs.declared.ranks.SizeRank.TheVariants.{All, Mixed, Unseen}
use Rattle.std.specs.List.{Contains, range_with_len, slice_index_or}
use Rattle.std.specs.List as list
use Rattle.std.specs.Prelude.{ℕ, ◌≡◌, ◌+◌, ◌<◌, ◌==◌, ◌≤◌, Bool, IsTrue, false, List, [], ◌∷◌, cond, length, map}

-- the face at a place, of which the list has one
abbrev pub face_at : List (List Bool) → ℕ → List Bool
face_at faces k = slice_index_or faces k []

-- the number at a place
abbrev pub rank_at : List ℕ → ℕ → ℕ
rank_at ranks k = slice_index_or ranks k 0

-- whether a size is marked
abbrev pub is_seen : List Bool → ℕ → Bool
is_seen seen s = slice_index_or seen s false

-- each face from the place i on has the rank that stands at its place
abbrev pub AreRanksFrom : ℕ → List (List Bool) → List (List Bool) → List ℕ → ℕ → Type 0
AreRanksFrom m rows faces ranks i = (k : ℕ) → i ≤ k → k < length faces
    → HasMeetRank m (bit_sets rows) (has (face_at faces k)) (rank_at ranks k)

-- each face has the rank that stands at its place
abbrev pub AreRanks : Table → List (List Bool) → List ℕ → Type 0
AreRanks t faces ranks = AreRanksFrom t.row_len t.rows faces ranks 0

-- a number for each size from 0 to m, none greater than m, and that of a face less than that of any face with more
-- places
pub record AreHeights (m : ℕ) (faces : List (List Bool)) (heights : List ℕ) : Type 0 where
  pub len : length heights ≡ m + 1
  pub small : (s : ℕ) → rank_at heights s ≤ m
  pub rise : (f g : List Bool) → Contains faces f → Contains faces g → member_count f < member_count g
      → rank_at heights (member_count f) < rank_at heights (member_count g)

-- the faces that have rank k, as lists of their places
abbrev pub level_of : ℕ → List (List Bool) → List ℕ → List (List ℕ)
level_of k [] ranks = []
level_of k (f ∷ faces) [] = []
level_of k (f ∷ faces) (r ∷ ranks) =
    cond (r == k) (members f ∷ level_of k faces ranks) (level_of k faces ranks)

-- the faces of each rank from 0 to the top one
abbrev pub levels_to : ℕ → List (List Bool) → List ℕ → List (List (List ℕ))
levels_to top faces ranks = map (λ k. level_of k faces ranks) (range_with_len 0 (top + 1))

-- each size that a face has is marked
abbrev pub AreSeen : List (List Bool) → List Bool → Type 0
AreSeen faces seen = list.All (λ f. IsTrue (is_seen seen (member_count f))) faces

-- a number for each size, no greater than the size, and rising after each size that is marked
pub record Rise (seen : List Bool) (heights : List ℕ) : Type 0 where
  pub len : length heights ≡ length seen
  pub small : (s : ℕ) → s < length seen → rank_at heights s ≤ s
  pub rise : (s t : ℕ) → s < t → t < length seen → IsTrue (is_seen seen s)
      → rank_at heights s < rank_at heights t

-- the face has this rank among the meets of a table's rows
abbrev pub HasRankIn : Table → List Bool → ℕ → Type 0
HasRankIn t f k = HasMeetRank t.row_len (bit_sets t.rows) (has f) k

-- a face of a size may have the rank k, as far as is known of the size
abbrev pub Allows : SizeRank → ℕ → Type 0
Allows Unseen k = ⊥
Allows (All rank) k = k ≡ rank
Allows Mixed k = Unit {0}

-- each face from the place i on has a rank that its size allows
abbrev pub AreAllowedFrom : List (List Bool) → List ℕ → List SizeRank → ℕ → Type 0
AreAllowedFrom faces ranks sizes i = (k : ℕ) → i ≤ k → k < length faces
    → Allows (slice_index_or sizes (member_count (face_at faces k)) Unseen) (rank_at ranks k)

-- the face is one of the list, and stands after a place
pub record StandsAfter (faces : List (List Bool)) (place : ℕ) (f : List Bool) : Type 0 where
  pub there : Contains faces f
  pub later : (k : ℕ) → k < length faces → face_at faces k ≡ f → place < k
