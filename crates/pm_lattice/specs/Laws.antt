-- What meets are where the sets hold the vertices of the facets, and which pairs are meets.
use Rattle.pm_vector.specs.Cones.{InCone}
use Rattle.pm_vector.specs.Rows.{HasCols, Row}
use Rattle.pm_geom.specs.Cones.{IsOrder, IsValid}
use Rattle.pm_geom.specs.FaceCounts.{IsHasseDiagram}
use Rattle.pm_geom.specs.Faces.{HasRank, IsFace}
use Rattle.pm_geom.specs.Graphs.{pair_of, sets_of}
use Rattle.pm_geom.specs.Meets.{AreMeetsByRank, HasMeetRank, IsMeet}
use Rattle.pm_types.specs.Right.{IsIncidence}
use Rattle.std.specs.List.{Contains}
use Rattle.std.specs.Prelude.{Bool, IsTrue, List, length, ℕ, ◌<◌, ◌≡◌, ◌↔◌}

-- where each set holds exactly the places at which its facet row vanishes, the meets of the sets are exactly the
-- faces, and have their ranks (Ziegler, section 2.2)
abbrev pub MeetsAreFaces : Type 0
MeetsAreFaces = (n : ℕ) (G L : List Row) → HasCols n G → HasCols n L → (V F : List Row)
    → IsOrder n (InCone G L) V → IsOrder n (IsValid n G L) F → (rows : List (List ℕ)) → IsIncidence F V rows
    → (f : ℕ → Bool) →
    (IsMeet (length V) (sets_of rows) f ↔ IsFace n G L V f)
    × ((k : ℕ) → HasMeetRank (length V) (sets_of rows) f k ↔ HasRank n G L V f k)

-- where each set holds exactly the places at which its facet row vanishes, the meets by rank are the faces by rank
abbrev pub LatticeIsHasseDiagram : Type 0
LatticeIsHasseDiagram = (n : ℕ) (G L : List Row) → HasCols n G → HasCols n L → (V F : List Row)
    → IsOrder n (InCone G L) V → IsOrder n (IsValid n G L) F → (rows : List (List ℕ)) → IsIncidence F V rows
    → (ranks : List (List (List ℕ))) →
    AreMeetsByRank (length V) (sets_of rows) ranks → IsHasseDiagram n G L V ranks

-- two places alone are a meet exactly where no third place is in each set that has both
abbrev pub EdgesByOthers : Type 0
EdgesByOthers = (m : ℕ) (sets : List (ℕ → Bool)) (i j : ℕ) → i < m → j < m →
    IsMeet m sets (pair_of i j) ↔ ((l : ℕ) → l < m → ¬ (l ≡ i) → ¬ (l ≡ j)
    → ¬ ((r : ℕ → Bool) → Contains sets r → IsTrue (r i) → IsTrue (r j) → IsTrue (r l)))
