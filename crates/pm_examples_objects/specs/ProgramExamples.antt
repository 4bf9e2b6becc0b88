-- Linear programs on small polytopes: which values, faces and dual rows are right.
use Rattle.std.specs.Prelude.{ℕ, ◌≡◌, List, [], ◌∷◌, false, map, true}
use Rattle.pm_vector.specs.Numbers.{Ratio}
use Rattle.pm_vector.specs.Rows.{Row}
use Rattle.pm_geom.specs.Examples.{edges, half_line, pair, square, triple}
use Rattle.pm_geom.specs.Things.{Orders}
use Rattle.pm_object_type.specs.declared.object_type.ObjectType.TheVariants.{Polytope}
use Rattle.pm_props.specs.declared.property.PropId.{PropId}
use Rattle.pm_props.specs.declared.property.PropId.TheVariants.{F2Vector, LinearObjective, MaximalDual, MaximalFace, MaximalValue, MinimalDual, MinimalFace, MinimalValue, NVertices, Points}
use Rattle.pm_types.specs.Forms.{AreFractions, is_formed}
use Rattle.pm_types.specs.Right.{Right}
use Rattle.pm_types.specs.Things.{Thing}
use Rattle.pm_types.specs.Values.{PropertyValue, counts, extended, finite, matrix, minus_infinity, plus_infinity, whole}
use Rattle.pm_types.specs.Views.{over_one, ratios}
use lib.IntN.{ℤ, negsuc, pos}

-- the polytope whose cone these rows generate; each of its programs has this objective
abbrev pub program_on : ℕ → List Row → List Ratio → Thing
program_on n G c = record {
  of = Polytope;
  cols = n;
  generators = G;
  lines = [];
  cones = [];
  objective = λ s. c;
  sites = [];
  heights = [];
}

-- the rays and the facet rows, in this order
abbrev pub orders_of : List Row → List Row → Orders
orders_of V F = record { rays = V; facets = F; cones = [] }

-- the whole number k as a value
abbrev pub number : ℤ → PropertyValue
number k = extended (finite (over_one k))

abbrev pub infinity : PropertyValue
infinity = extended plus_infinity

abbrev pub below_all : PropertyValue
below_all = extended minus_infinity

-- ---- the empty polytope
-- of the objective x1 the value is right for the empty polytope
abbrev pub EmptyHas : PropId → PropertyValue → Type 0
EmptyHas p v = Right p v (program_on 2 [] (ratios (pair 0 1))) (orders_of [] []) (ratios (pair 0 1))

-- where there is no point the greatest value is -inf and the least inf, and there is no face and no dual row
pub record EmptyProgramsAreRead : Type 0 where
  pub greatest : EmptyHas MaximalValue below_all
  pub not_infinity : ¬ (EmptyHas MaximalValue infinity)
  pub not_finite : ¬ (EmptyHas MaximalValue (number (pos 0)))
  pub least : EmptyHas MinimalValue infinity
  pub not_below_all : ¬ (EmptyHas MinimalValue below_all)
  pub no_face : EmptyHas MaximalFace (counts [])
  pub no_least_face : EmptyHas MinimalFace (counts [])
  pub no_rows : EmptyHas MaximalDual (matrix 0 [])
  pub no_least_rows : EmptyHas MinimalDual (matrix 0 [])
  pub not_a_row : ¬ (EmptyHas MaximalDual (matrix 2 (ratios (pair 0 1) ∷ [])))

-- ---- the half line x1 >= 0
-- of the objective x1 the value is right for the half line, whose rays are (0,1) and (1,0)
abbrev pub HalfLineHas : PropId → PropertyValue → Type 0
HalfLineHas p v = Right p v (program_on 2 half_line (ratios (pair 0 1))) (orders_of half_line half_line)
    (ratios (pair 0 1))

-- x1 improves without end, and is least, 0, at the vertex, which the facet row (0,1) shows: not its double, and not
-- with the far face, which shows -1
pub record HalfLineProgramsAreRead : Type 0 where
  pub greatest : HalfLineHas MaximalValue infinity
  pub not_below_all : ¬ (HalfLineHas MaximalValue below_all)
  pub not_finite : ¬ (HalfLineHas MaximalValue (number (pos 5)))
  pub least : HalfLineHas MinimalValue (number (pos 0))
  pub not_attained : ¬ (HalfLineHas MinimalValue (number (negsuc 0)))
  pub not_the_least : ¬ (HalfLineHas MinimalValue (number (pos 1)))
  pub no_face : HalfLineHas MaximalFace (counts [])
  pub vertex : HalfLineHas MinimalFace (counts (pos 1 ∷ []))
  pub not_both : ¬ (HalfLineHas MinimalFace (counts (pos 0 ∷ pos 1 ∷ [])))
  pub no_rows : HalfLineHas MaximalDual (matrix 0 [])
  pub row : HalfLineHas MinimalDual (matrix 2 (ratios (pair 0 1) ∷ []))
  pub not_no_rows : ¬ (HalfLineHas MinimalDual (matrix 0 []))
  pub not_double : ¬ (HalfLineHas MinimalDual (matrix 2 (map ratios (pair 0 2 ∷ []))))
  pub not_lower : ¬ (HalfLineHas MinimalDual (matrix 2 (map ratios (pair 0 1 ∷ pair 1 0 ∷ []))))

-- ---- the unit square
-- x1 + x2
abbrev pub sum_objective : List Ratio
sum_objective = ratios (triple 0 1 1)

-- of the objective x1 + x2 the value is right for the square
abbrev pub SquareHas : PropId → PropertyValue → Type 0
SquareHas p v = Right p v (program_on 3 square sum_objective) (orders_of square edges) sum_objective

-- 1 - x1 and 1 - x2
abbrev pub right_edge : Row
right_edge = pos 1 ∷ negsuc 0 ∷ pos 0 ∷ []

abbrev pub upper_edge : Row
upper_edge = pos 1 ∷ pos 0 ∷ negsuc 0 ∷ []

-- these rows, over 1
abbrev pub rows_of : List Row → PropertyValue
rows_of X = matrix 3 (map ratios X)

-- x1 + x2 is at most 2, at the last vertex, and at least 0, at the first
pub record SquareProgramsAreRead : Type 0 where
  pub objective : SquareHas LinearObjective (rows_of (triple 0 1 1 ∷ []))
  pub not_another : ¬ (SquareHas LinearObjective (rows_of (triple 0 2 2 ∷ [])))
  pub not_twice : ¬ (SquareHas LinearObjective (rows_of (triple 0 1 1 ∷ triple 0 1 1 ∷ [])))
  pub greatest : SquareHas MaximalValue (number (pos 2))
  pub not_attained : ¬ (SquareHas MaximalValue (number (pos 3)))
  pub not_the_greatest : ¬ (SquareHas MaximalValue (number (pos 1)))
  pub least : SquareHas MinimalValue (number (pos 0))
  pub not_the_least : ¬ (SquareHas MinimalValue (number (pos 2)))
  pub last_vertex : SquareHas MaximalFace (counts (pos 3 ∷ []))
  pub not_another_vertex : ¬ (SquareHas MaximalFace (counts (pos 2 ∷ [])))
  pub not_twice_a_vertex : ¬ (SquareHas MaximalFace (counts (pos 3 ∷ pos 3 ∷ [])))
  pub first_vertex : SquareHas MinimalFace (counts (pos 0 ∷ []))

-- of the objective 2 x1 the value is right for the square
abbrev pub DoubleHas : PropId → PropertyValue → Type 0
DoubleHas p v = Right p v (program_on 3 square (ratios (triple 0 2 0))) (orders_of square edges)
    (ratios (triple 0 2 0))

-- x1 + x2 and both edges at the last vertex are together 2; the edges stand in lexicographic order, each once
pub record SquareDualsAreRead : Type 0 where
  pub rows : SquareHas MaximalDual (rows_of (right_edge ∷ upper_edge ∷ []))
  pub least_rows : SquareHas MinimalDual (rows_of (triple 0 0 1 ∷ triple 0 1 0 ∷ []))
  pub not_descending : ¬ (SquareHas MinimalDual (rows_of (triple 0 1 0 ∷ triple 0 0 1 ∷ [])))
  pub not_a_facet : ¬ (SquareHas MinimalDual (rows_of (triple 0 1 1 ∷ [])))
  -- the least value of 2 x1 is not shown by two rows of one direction, though they have the right sum
  pub not_twice : ¬ (DoubleHas MinimalDual (rows_of (triple 0 1 0 ∷ triple 0 1 0 ∷ [])))

-- ---- other objectives
-- the square with the objective 0
abbrev pub ConstantHas : PropId → PropertyValue → Type 0
ConstantHas p v = Right p v (program_on 3 square (ratios (triple 0 0 0))) (orders_of square edges)
    (ratios (triple 0 0 0))

-- the value is 0 at each vertex, which no row has to show
pub record ConstantProgramsAreRead : Type 0 where
  pub greatest : ConstantHas MaximalValue (number (pos 0))
  pub least : ConstantHas MinimalValue (number (pos 0))
  pub no_rows : ConstantHas MaximalDual (matrix 0 [])

-- x1 / 2
abbrev pub half : List Ratio
half = over_one (pos 0) ∷ record { num = pos 1; den = pos 2 } ∷ []

-- the segment from 0 to 1
abbrev pub segment : List Row
segment = pair 1 0 ∷ pair 1 1 ∷ []

abbrev pub HalfHas : PropId → PropertyValue → Type 0
HalfHas p v = Right p v (program_on 2 segment half) (orders_of segment segment) half

-- x1 / 2 is at most 1/2
pub record FractionalProgramsAreRead : Type 0 where
  pub greatest : HalfHas MaximalValue (extended (finite (record { num = pos 1; den = pos 2 })))
  pub not_one : ¬ (HalfHas MaximalValue (number (pos 1)))

-- ---- forms
-- objectives are one row, tables may have no columns, numbers are fractions in lowest terms or infinities
pub record FormsAreRead : Type 0 where
  pub one_row : is_formed LinearObjective (rows_of (triple 0 1 1 ∷ [])) ≡ true
  pub not_two_rows : is_formed LinearObjective (rows_of (triple 0 1 1 ∷ triple 0 1 1 ∷ [])) ≡ false
  pub not_no_rows : is_formed LinearObjective (matrix 3 []) ≡ false
  pub dual_rows : is_formed MaximalDual (rows_of (triple 0 1 1 ∷ triple 0 1 1 ∷ [])) ≡ true
  pub no_columns : is_formed F2Vector (matrix 0 ([] ∷ [])) ≡ true
  pub no_more_columns : is_formed F2Vector (matrix 34 []) ≡ false
  pub not_ragged : is_formed F2Vector (matrix 0 ([] ∷ ratios (pair 0 1) ∷ [])) ≡ false
  pub points_have_columns : is_formed Points (matrix 0 ([] ∷ [])) ≡ false
  pub finite_value : is_formed MaximalValue (number (pos 2)) ≡ true
  pub not_a_whole_number : is_formed MaximalValue (whole (pos 2)) ≡ false
  pub not_a_value : is_formed NVertices (number (pos 2)) ≡ false
  pub lowest_terms : AreFractions (extended (finite (over_one (pos 2))))
  pub infinities : AreFractions infinity × AreFractions below_all
  pub not_in_lowest_terms : ¬ (AreFractions (extended (finite (record { num = pos 2; den = pos 2 }))))
