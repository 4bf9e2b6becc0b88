-- Parts of faces. Rows and faces are rows of bits of one length m.
use Rattle.pm_bits.specs.Sets.{IsSubset, has}
use Rattle.pm_bits.specs.Table.{Table}
use Rattle.pm_geom.specs.FaceCounts.{SamePlaces}
use Rattle.std.specs.List.{All, Contains, slice_index_or}
use Rattle.std.specs.Prelude.{ℕ, ◌≡◌, ◌+◌, ◌<◌, ◌≤◌, ◌&&◌, ◌⊎◌, Bool, IsTrue, List, [], length}

-- each place of f below m is one of g
abbrev pub IsIn : ℕ → (ℕ → Bool) → (ℕ → Bool) → Type 0
IsIn m f g = (j : ℕ) → j < m → IsTrue (f j) → IsTrue (g j)

-- the places of f that are places of g
abbrev pub both : (ℕ → Bool) → (ℕ → Bool) → ℕ → Bool
both f g j = f j && g j

-- the row at a place, of which the list has one
abbrev pub row_of : List (List Bool) → ℕ → List Bool
row_of rows j = slice_index_or rows j []

-- c is what the face f shares with some row that does not contain it
pub record IsPartOf (rows : List (List Bool)) (f c : List Bool) : Type 0 where
  pub row : List Bool
  pub among : Contains rows row
  pub not_in : ¬ (IsSubset f row)
  pub len : length c ≡ length f
  pub shared : (j : ℕ) → has c j ≡ (has row j && has f j)

-- the row at j opens a part of f: it does not contain f; an earlier row that has what f shares with it contains f;
-- and the earlier rows that contain f share no more than f
pub record IsOpening (m : ℕ) (rows : List (List Bool)) (f : List Bool) (j : ℕ) : Type 0 where
  pub inside : j < length rows
  pub not_in : ¬ (IsSubset f (row_of rows j))
  pub first : (i : ℕ) → i < j → IsIn m (both (has f) (has (row_of rows j))) (has (row_of rows i))
      → IsSubset f (row_of rows i)
  pub hull : (x : ℕ) → x < m
      → ((i : ℕ) → i < j → IsSubset f (row_of rows i) → IsTrue (has (row_of rows i) x)) → IsTrue (has f x)

-- each part of f that a row opens is one of the faces
abbrev pub Covers : ℕ → List (List Bool) → List (List Bool) → List Bool → Type 0
Covers m rows faces f = (j : ℕ) → IsOpening m rows f j
    → (c : List Bool) × Contains faces c × SamePlaces m (both (has f) (has (row_of rows j))) (has c)

-- the list has grown by parts of f, and has each part of f that a row opens
pub record Opens (m : ℕ) (rows : List (List Bool)) (f : List Bool) (old new : List (List Bool))
    : Type 0 where
  pub kept : (k : List Bool) → Contains old k → Contains new k
  pub added : (k : List Bool) → Contains new k → Contains old k ⊎ IsPartOf rows f k
  pub covers : Covers m rows new f

-- the same over the rows of a table
abbrev pub OpensParts : Table → List Bool → List (List Bool) → List (List Bool) → Type 0
OpensParts t f old new = Opens t.row_len t.rows f old new

-- no row before the place opens a part of f
abbrev pub OpensFrom : Table → List Bool → ℕ → Type 0
OpensFrom t f from = (j : ℕ) → IsOpening t.row_len t.rows f j → from ≤ j

-- beside each open face stands a place before which no row opens a part of it
abbrev pub AreOpen : Table → List (List Bool × ℕ) → Type 0
AreOpen t entries = All (λ e. OpensFrom t e.0 e.1) entries

-- c is what the face f shares with the row at j, which does not contain it, and no row up to this one opens a part
-- of c
pub record HasOpened (t : Table) (f : List Bool) (j : ℕ) (c : List Bool) : Type 0 where
  pub part : IsPartOf t.rows f c
  pub shared : SamePlaces t.row_len (both (has f) (has (row_of t.rows j))) (has c)
  pub later : OpensFrom t c (j + 1)
