-- When a fan is built of a polytope, and why not: the conditions, in the order in which they are tried.
use Rattle.std.specs.Prelude.{◌&&◌, Bool, not, Option, None, Some, List, [], ◌∷◌, if◌then◌else◌, length, nat_eq, nat_le}
use Rattle.std.specs.List.{list_all}
use Rattle.pm_files.specs.Files.{SavedFile}
use Rattle.pm_object.specs.Known.{cols_at, is_true, rows_at, sets_at}
use Rattle.pm_object.specs.State.{State, is_polytope}
use Rattle.pm_object.specs.declared.held.Condition.{Condition}
use Rattle.pm_object.specs.declared.held.Condition.TheVariants as condition
use Rattle.pm_props.specs.declared.property.PropId.{PropId}
use Rattle.pm_props.specs.declared.property.PropId.TheVariants.{AffineHull, Bounded, Centered, Facets, Feasible, Vertices, VerticesInFacets}
use Rattle.pm_types.specs.Forms.{are_rows}
use Rattle.pm_fan.specs.Fans.{face_fan_of, normal_fan_of}

-- what is read for a normal fan
abbrev pub normal_reads : List PropId
normal_reads = Bounded ∷ Feasible ∷ AffineHull ∷ VerticesInFacets ∷ Facets ∷ Vertices ∷ []

-- what is read for a face fan
abbrev pub face_reads : List PropId
face_reads = Bounded ∷ Centered ∷ VerticesInFacets ∷ Vertices ∷ []

-- a set for each facet, of places of vertices
abbrev pub are_of_facets : State → Bool
are_of_facets o = nat_eq (length (sets_at VerticesInFacets o).rows) (length (rows_at Facets o))

abbrev pub are_of_vertices : State → Bool
are_of_vertices o = nat_eq (sets_at VerticesInFacets o).cols (length (rows_at Vertices o))

-- each row passes the test of its property
abbrev pub rows_pass : SavedFile → Bool
rows_pass f = list_all (λ v. are_rows f.of v.0 v.1) f.values

-- an object of other rows is not built
abbrev pub rows_refusal : SavedFile → Option Condition
rows_refusal f = if rows_pass f then None else Some condition.Rows

-- a bounded polytope, not empty, of a column beside the first, whose sets are of its facets and vertices, and no
-- normal is 0
abbrev pub normal_refusal : State → Option Condition
normal_refusal o = if not (is_polytope o.of) then Some condition.OfType
    else if not (is_true Bounded o) then Some condition.Bounded
    else if not (is_true Feasible o) then Some condition.Feasible
    else if not (nat_le 2 (cols_at o)) then Some condition.Columns
    else if not (are_of_facets o && are_of_vertices o) then Some condition.Rows
    else rows_refusal (normal_fan_of o)

-- a bounded polytope with 0 in its interior, of a column beside the first, whose sets are of its vertices, and no
-- vertex is 0
abbrev pub face_refusal : State → Option Condition
face_refusal o = if not (is_polytope o.of) then Some condition.OfType
    else if not (is_true Bounded o) then Some condition.Bounded
    else if not (is_true Centered o) then Some condition.Centered
    else if not (nat_le 2 (cols_at o)) then Some condition.Columns
    else if not (are_of_vertices o) then Some condition.Rows
    else rows_refusal (face_fan_of o)
