-- The values of new fans: the normal fan and the face fan of a polytope (Ziegler, Lectures on Polytopes, examples 7.2
-- and 7.3).
use Rattle.std.specs.Prelude.{ℕ, suc, ◌-◌, Bool, true, false, List, [], ◌∷◌, drop, filter, length, map, nat_eq, if◌then◌else◌}
use Rattle.std.specs.List.{range_with_len}
use Rattle.pm_vector.specs.Numbers.{Ratio}
use Rattle.pm_files.specs.Files.{SavedFile}
use Rattle.pm_geom.specs.Graphs.{holds}
use Rattle.pm_object.specs.Known.{cols_at, rows_at, sets_at}
use Rattle.pm_types.specs.Parts.{value_of_sets, value_over}
use Rattle.pm_object.specs.State.{State}
use Rattle.pm_object_type.specs.declared.object_type.ObjectType.TheVariants.{Fan}
use Rattle.pm_props.specs.declared.property.PropId.{PropId}
use Rattle.pm_props.specs.declared.property.PropId.TheVariants.{AffineHull, ConeAmbientDim, Facets, LinealitySpace, MaximalCones, Vertices, VerticesInFacets}
use Rattle.pm_types.specs.Values.{IndexSets, PropertyValue, whole}
use lib.IntN.{pos}

-- a fan with these values, all of them given
abbrev pub fan_with : List (PropId × PropertyValue) → SavedFile
fan_with values = record { of = Fan; values = values; stored = 0; failed = []; programs = []; ignored = [] }

-- the fan's dimensions: those of the polytope's points, without the first column
abbrev pub fan_cols : State → ℕ
fan_cols o = cols_at o - 1

-- each row without its first coordinate: the point of a vertex, the normal of a facet
abbrev pub cut : List (List Ratio) → List (List Ratio)
cut rows = map (drop 1) rows

abbrev pub has_members : List ℕ → Bool
has_members [] = false
has_members (j ∷ set) = true

-- the rows whose set has members, in order
abbrev pub with_members : List (List ℕ) → List (List Ratio) → List (List Ratio)
with_members [] rows = []
with_members (set ∷ sets) [] = []
with_members (set ∷ sets) (r ∷ rows) = if has_members set then r ∷ with_members sets rows
    else with_members sets rows

-- the places, from i on, of the sets that hold j
abbrev pub holders_from : ℕ → List (List ℕ) → ℕ → List ℕ
holders_from i [] j = []
holders_from i (set ∷ sets) j = if holds set j then i ∷ holders_from (suc i) sets j
    else holders_from (suc i) sets j

-- ---- the normal fan: a ray for each facet that holds a vertex, a cone for each vertex
abbrev pub normal_rays : State → List (List Ratio)
normal_rays o = cut (with_members (sets_at VerticesInFacets o).rows (rows_at Facets o))

-- for each vertex the rays of the facets that hold it
abbrev pub normal_cones : State → IndexSets
normal_cones o = record {
  rows = map (holders_from 0 (filter has_members (sets_at VerticesInFacets o).rows))
      (range_with_len 0 (length (rows_at Vertices o)));
  cols = length (normal_rays o);
}

abbrev pub normal_fan_of : State → SavedFile
normal_fan_of o = fan_with (
    (ConeAmbientDim, whole (pos (fan_cols o)))
    ∷ (Vertices, value_over (fan_cols o) (normal_rays o))
    ∷ (LinealitySpace, value_over (fan_cols o) (cut (rows_at AffineHull o)))
    ∷ (MaximalCones, value_of_sets (normal_cones o)) ∷ [])

-- ---- the face fan: a ray for each vertex, a cone for each facet
-- a polytope of one vertex is a point, which is 0
abbrev pub is_point : State → Bool
is_point o = nat_eq (length (rows_at Vertices o)) 1

-- of a point there is no ray
abbrev pub face_rays : State → List (List Ratio)
face_rays o = if is_point o then [] else cut (rows_at Vertices o)

-- the cone {0} alone
abbrev pub only_apex : IndexSets
only_apex = record { rows = [] ∷ []; cols = 0 }

-- for each facet the vertices that lie on it
abbrev pub face_cones : State → IndexSets
face_cones o = if is_point o then only_apex else sets_at VerticesInFacets o

abbrev pub face_fan_of : State → SavedFile
face_fan_of o = fan_with (
    (ConeAmbientDim, whole (pos (fan_cols o)))
    ∷ (Vertices, value_over (fan_cols o) (face_rays o))
    ∷ (MaximalCones, value_of_sets (face_cones o)) ∷ [])
