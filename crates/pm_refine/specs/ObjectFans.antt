-- The fan of an object, by its values; and when the refinement of two of them is not built.
use Rattle.std.specs.Prelude.{ℕ, ◌&&◌, ◌≡◌, Bool, false, true, not, Option, None, Some, List, [], ◌∷◌, if◌then◌else◌, length, map, nat_eq}
use Rattle.pm_vector.specs.Rows.{Row}
use Rattle.pm_geom.specs.Faces.{ray}
use Rattle.pm_laws_normal_fans.specs.Fans.{Fan}
use Rattle.pm_fraction.specs.FractionRows.{ArePrimitiveRowsOf}
use Rattle.pm_object.specs.Known.{IsKnown, cols_at, rows_at, sets_at}
use Rattle.pm_object.specs.State.{State}
use Rattle.pm_object.specs.declared.held.Condition.{Condition}
use Rattle.pm_object.specs.declared.held.Condition.TheVariants as condition
use Rattle.pm_object_type.specs.declared.object_type.ObjectType.{ObjectType}
use Rattle.pm_object_type.specs.declared.object_type.ObjectType.TheVariants.{Cone, Fan as OfFan, Polytope}
use Rattle.pm_props.specs.declared.property.PropId.{PropId}
use Rattle.pm_props.specs.declared.property.PropId.TheVariants.{LinealitySpace, MaximalCones, Vertices}
use Rattle.pm_refine.specs.CutRows.{fan_from}

-- what is read of each fan: its rays, its lineality, its cones as sets of places of rays
abbrev pub refine_reads : List PropId
refine_reads = Vertices ∷ LinealitySpace ∷ MaximalCones ∷ []

-- a fan holds them, and its column count is known; objects of other types are not read
abbrev pub IsReadableFan : State → Type 0
IsReadableFan o = o.of ≡ OfFan → IsKnown refine_reads o

-- the rays at these places
abbrev pub rays_at : List Row → List ℕ → List Row
rays_at V set = map (ray V) set

-- the cones are spanned by the primitive rows of its rays, over those of its lineality
pub record IsFanOfObject (o : State) (f : Fan) : Type 0 where
  pub rays : List Row
  pub lines : List Row
  pub are_rays : ArePrimitiveRowsOf (rows_at Vertices o) rays
  pub are_lines : ArePrimitiveRowsOf (rows_at LinealitySpace o) lines
  pub is : f ≡ fan_from (map (rays_at rays) (sets_at MaximalCones o).rows) lines

-- ---- conditions
abbrev pub is_fan : ObjectType → Bool
is_fan OfFan = true
is_fan Polytope = false
is_fan Cone = false

-- the sets are of places of its rays
abbrev pub are_of_rays : State → Bool
are_of_rays o = nat_eq (sets_at MaximalCones o).cols (length (rows_at Vertices o))

-- two fans, of as many columns, whose cones are sets of their rays
abbrev pub refine_refusal : State → State → Option Condition
refine_refusal a b = if not (is_fan a.of && is_fan b.of) then Some condition.OfType
    else if not (nat_eq (cols_at a) (cols_at b)) then Some condition.Columns
    else if not (are_of_rays a && are_of_rays b) then Some condition.Columns
    else None
