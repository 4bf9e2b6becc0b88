-- When an object is built, and why not: the conditions, in the order in which they are tried.
use Rattle.std.specs.Prelude.{ℕ, suc, ◌^◌, ◌*◌, ◌+◌, ◌≡◌, ◌&&◌, Bool, true, false, not, IsTrue, Option, None, Some, List, [], ◌∷◌, if◌then◌else◌, length, nat_eq, nat_le, nat_lt}
use Rattle.std.specs.List.{All, list_all}
use Rattle.std.specs.Option.{is_some, unwrap_or}
use Rattle.pm_vector.specs.Numbers.{Ratio}
use Rattle.pm_fraction.specs.Matrices.{FractionMatrix}
use Rattle.pm_object.specs.declared.held.Condition.{Condition}
use Rattle.pm_object.specs.declared.held.Condition.TheVariants as condition
use Rattle.pm_object.specs.Known.{cols_at, is_true, rows_at}
use Rattle.pm_object.specs.State.{State, is_polytope}
use Rattle.pm_object_type.specs.declared.object_type.ObjectType.{ObjectType}
use Rattle.pm_object_type.specs.declared.object_type.ObjectType.TheVariants.{Polytope, Cone, Fan}
use Rattle.pm_props.specs.declared.property.PropId.{PropId}
use Rattle.pm_props.specs.declared.property.PropId.TheVariants.{AffineHull, Bounded, Centered, Facets, Feasible, FullDim, LinealitySpace, Points, Vertices}
use Rattle.pm_types.specs.Forms.{is_row, rows_in}
use Rattle.pm_types.specs.Values.{PropertyValue, matrix, truth}
use Rattle.pm_build.specs.Points.{far, points}
use Rattle.pm_limits.specs.Limits.{most_columns, most_dimensions, most_rows}

-- ---- what is read
-- what is read for a polar
abbrev pub polar_reads : List PropId
polar_reads = Bounded ∷ FullDim ∷ Centered ∷ Facets ∷ []

-- what is read of each polytope for a product
abbrev pub product_reads : List PropId
product_reads = Facets ∷ AffineHull ∷ []

-- what is read for a pyramid
abbrev pub pyramid_reads : List PropId
pyramid_reads = Vertices ∷ LinealitySpace ∷ []

-- what is read of each polytope for a sum
abbrev pub sum_reads : List PropId
sum_reads = Feasible ∷ Vertices ∷ LinealitySpace ∷ []

-- ---- conditions
-- a cube, simplex or cross-polytope has at most 32 dimensions
abbrev pub shape_refusal : ℕ → Option Condition
shape_refusal d = if nat_le d most_dimensions then None else Some condition.Size

-- a cyclic polytope too, and from d + 1 to most_rows points, the last power of whose last number is in the range
abbrev pub is_cyclic_size : ℕ → ℕ → Bool
is_cyclic_size d n = nat_le d most_dimensions && nat_le (suc d) n && nat_le n most_rows
    && nat_lt (n ^ d) (2 ^ 127)

-- a cyclic polytope of no other sizes is built
abbrev pub cyclic_refusal : ℕ → ℕ → Option Condition
cyclic_refusal d n = if is_cyclic_size d n then None else Some condition.Size

-- a polytope, bounded, of full dimension, with 0 in its interior, whose facet rows can be points
abbrev pub polar_refusal : State → Option Condition
polar_refusal o = if not (is_polytope o.of) then Some condition.OfType
    else if not (is_true Bounded o) then Some condition.Bounded
    else if not (is_true FullDim o) then Some condition.FullDim
    else if not (is_true Centered o) then Some condition.Centered
    else if not (list_all (is_row Polytope Points) (rows_at Facets o)) then Some condition.Rows
    else None

-- at most most_rows rows of the property together
abbrev pub are_few : PropId → State → State → Bool
are_few p a b = nat_le (length (rows_at p a) + length (rows_at p b)) most_rows

-- two polytopes whose product has at most 33 columns, that is at most 34 columns together, and not too many facets or
-- rows of the affine hull
abbrev pub product_refusal : State → State → Option Condition
product_refusal a b = if not (is_polytope a.of && is_polytope b.of) then Some condition.OfType
    else if not (nat_le (cols_at a + cols_at b) (most_columns + 1)) then Some condition.Columns
    else if not (are_few Facets a b && are_few AffineHull a b) then Some condition.Rows
    else None

-- a polytope with room for one column and one vertex more
abbrev pub pyramid_refusal : State → Option Condition
pyramid_refusal o = if not (is_polytope o.of) then Some condition.OfType
    else if not (nat_le (cols_at o) most_dimensions) then Some condition.Columns
    else if not (nat_lt (length (rows_at Vertices o)) most_rows) then Some condition.Rows
    else None

-- how many rows the sum has as points: one for each pair of points, and the far rows of both
abbrev pub sum_count : State → State → ℕ
sum_count a b = length (points (rows_at Vertices a)) * length (points (rows_at Vertices b)) +
    (length (far (rows_at Vertices a)) + length (far (rows_at Vertices b)))

-- two polytopes, not empty, of as many columns, whose sum has not too many points or lines
abbrev pub sum_refusal : State → State → Option Condition
sum_refusal a b = if not (is_polytope a.of && is_polytope b.of) then Some condition.OfType
    else if not (is_true Feasible a && is_true Feasible b) then Some condition.Feasible
    else if not (nat_eq (cols_at a) (cols_at b)) then Some condition.Columns
    else if not (nat_le (sum_count a b) most_rows && are_few LinealitySpace a b) then Some condition.Rows
    else None
