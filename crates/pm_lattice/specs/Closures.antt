-- Rows of bits and all their meets, each once and in order. Rows and faces are rows of bits of one length m.
use Rattle.pm_bits.specs.Sets.{has, member_count, row_cmp}
use Rattle.pm_bits.specs.Table.{Table}
use Rattle.pm_geom.specs.FaceCounts.{SamePlaces}
use Rattle.pm_geom.specs.Meets.{IsMeet}
use Rattle.pm_lattice.specs.declared.closure.Closure.{Closure}
use Rattle.pm_lattice.specs.declared.closure.Closure.TheVariants as closure
use Rattle.std.specs.List.{All, AllPairs, Contains, sum_by}
use Rattle.std.specs.Prelude.{ℕ, ◌≡◌, ◌<◌, ◌≤◌, ◌⊎◌, Bool, List, length, map}
use Rattle.std.specs.declared.cmp.Ordering.TheVariants.{Less}
use Rattle.pm_limits.specs.Limits.{most_faces, most_places}

-- rows of bits as sets of places
abbrev pub bit_sets : List (List Bool) → List (ℕ → Bool)
bit_sets rows = map has rows

-- x comes before y in the order of rows of bits
abbrev pub IsRowBefore : List Bool → List Bool → Type 0
IsRowBefore x y = row_cmp x y ≡ Less

-- the faces are all meets of the rows, each once and in order
pub record IsClosed (m : ℕ) (rows faces : List (List Bool)) : Type 0 where
  pub each : All (λ f. IsMeet m (bit_sets rows) (has f)) faces
  pub all : (g : ℕ → Bool) → IsMeet m (bit_sets rows) g
      → (f : List Bool) × Contains faces f × SamePlaces m g (has f)
  pub lengths : All (λ f. length f ≡ m) faces
  pub ordered : AllPairs IsRowBefore faces

-- how many places all faces have together
abbrev pub place_count : List (List Bool) → ℕ
place_count faces = sum_by member_count faces

-- no more faces or places than a lattice may have
abbrev pub AreFew : List (List Bool) → Type 0
AreFew faces = (length faces ≤ most_faces) × (place_count faces ≤ most_places)

-- more faces or places than a lattice may have
abbrev pub AreMany : List (List Bool) → Type 0
AreMany faces = (most_faces < length faces) ⊎ (most_places < place_count faces)

-- the faces are meets of the rows, each once and in order
pub record AreMeets (m : ℕ) (rows faces : List (List Bool)) : Type 0 where
  pub each : All (λ f. IsMeet m (bit_sets rows) (has f)) faces
  pub lengths : All (λ f. length f ≡ m) faces
  pub ordered : AllPairs IsRowBefore faces

-- all meets of a table's rows, at most most_faces, or more than so many of them
abbrev pub IsClosureOf : Table → Closure → Type 0
IsClosureOf t (closure.All faces) = IsClosed t.row_len t.rows faces.items × (length faces.items ≤ most_faces)
IsClosureOf t (closure.Many faces) = AreMeets t.row_len t.rows faces.items
    × (most_faces < length faces.items)
