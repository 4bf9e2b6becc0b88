-- The rank of the row list that a client reads, and the clients that find its null space.
use Rattle.pm_vector.specs.Rows.{Row}
use Rattle.pm_vector.specs.Bases.{IsRank}
use Rattle.pm_client.specs.Sound.{IsListOf, eliminated_by, row_list}
use Rattle.pm_object.specs.Reading.{ViewSeen}
use Rattle.pm_props.specs.Sets.{set_of}
use Rattle.pm_props.specs.declared.kind.Kind.{Kind}
use Rattle.pm_props.specs.declared.property.PropId.{PropId}
use Rattle.std.specs.Prelude.{List, [], ℕ, ◌∷◌, ◌≡◌}

-- k is the rank of the row list of these two parts
pub record IsListRank (v : ViewSeen) (first second : PropId) (k : ℕ) : Type 0 where
  pub rows : List Row
  pub listed : IsListOf v first second rows
  pub rank : IsRank rows k

-- a client of the kind eliminates the row list of these two properties, and finds the target
pub record FindsNullSpace (kind : Kind) (first second target : PropId) : Type 0 where
  pub targets : kind.targets ≡ set_of (target ∷ [])
  pub sources : kind.sources ≡ set_of (second ∷ first ∷ [])
  pub lists : eliminated_by kind ≡ row_list ∷ []
