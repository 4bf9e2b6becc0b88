-- Linear programs without end, on a line, and with rows that are not primitive: which values, faces and dual rows are
-- right.
use Rattle.std.specs.Prelude.{[], ◌∷◌, map}
use Rattle.pm_geom.specs.Examples.{half_line, pair, triple}
use Rattle.pm_examples_objects.specs.ProgramExamples.{below_all, infinity, number, orders_of, program_on, segment}
use Rattle.pm_props.specs.declared.property.PropId.TheVariants.{MaximalDual, MaximalValue, MinimalDual, MinimalFace, MinimalValue}
use Rattle.pm_props.specs.declared.property.PropId.{PropId}
use Rattle.pm_types.specs.Right.{Right}
use Rattle.pm_types.specs.Things.{Thing}
use Rattle.pm_types.specs.Values.{PropertyValue, counts, matrix}
use Rattle.pm_types.specs.Views.{ratios}
use Rattle.pm_vector.specs.Rows.{Row}
use lib.IntN.{negsuc, pos}

-- -x1
abbrev pub backwards : Row
backwards = pos 0 ∷ negsuc 0 ∷ []

-- of the objective -x1 the value is right for the half line x1 >= 0
abbrev pub FallingHas : PropId → PropertyValue → Type 0
FallingHas p v = Right p v (program_on 2 half_line (ratios backwards)) (orders_of half_line half_line)
    (ratios backwards)

-- of the objective x1 it is right for the segment from 0 to 1
abbrev pub SegmentHas : PropId → PropertyValue → Type 0
SegmentHas p v = Right p v (program_on 2 segment (ratios (pair 0 1))) (orders_of segment segment)
    (ratios (pair 0 1))

-- -x1 falls without end, so its least value is -inf, without a face and without dual rows; its greatest is 0: along
-- the ray it does not improve, and on the segment x1 improves from point to point, but along no direction
pub record EndlessProgramsAreRead : Type 0 where
  pub least : FallingHas MinimalValue below_all
  pub not_infinity : ¬ (FallingHas MinimalValue infinity)
  pub not_finite : ¬ (FallingHas MinimalValue (number (negsuc 4)))
  pub no_face : FallingHas MinimalFace (counts [])
  pub not_the_vertex : ¬ (FallingHas MinimalFace (counts (pos 1 ∷ [])))
  pub no_rows : FallingHas MinimalDual (matrix 0 [])
  pub not_a_row : ¬ (FallingHas MinimalDual (matrix 2 (ratios (pair 0 1) ∷ [])))
  pub greatest : FallingHas MaximalValue (number (pos 0))
  pub no_end : ¬ (FallingHas MaximalValue infinity)
  pub bounded : SegmentHas MaximalValue (number (pos 1))
  pub no_direction : ¬ (SegmentHas MaximalValue infinity)
  pub no_fall : ¬ (SegmentHas MinimalValue below_all)

-- x2
abbrev pub across : Row
across = triple 0 0 1

-- the line through (1,0,0) along (0,1,0) in the plane, on which x2 is 0, with the objective x2
abbrev pub line_program : Thing
line_program = record (program_on 3 (triple 1 0 0 ∷ []) (ratios across)) { lines = triple 0 1 0 ∷ [] }

abbrev pub LineHas : PropId → PropertyValue → Type 0
LineHas p v = Right p v line_program (orders_of (triple 1 0 0 ∷ []) (triple 1 0 0 ∷ [])) (ratios across)

-- x2 and no facet row at all are together 0, up to a row that is not zero and vanishes on the line
pub record LineProgramsAreRead : Type 0 where
  pub greatest : LineHas MaximalValue (number (pos 0))
  pub not_one : ¬ (LineHas MaximalValue (number (pos 1)))
  pub no_rows : LineHas MaximalDual (matrix 0 [])

-- 2 x1
abbrev pub twice_along : Row
twice_along = pair 0 2

-- of the objective 2 x1 the value is right for the half line
abbrev pub TwiceHas : PropId → PropertyValue → Type 0
TwiceHas p v = Right p v (program_on 2 half_line (ratios twice_along)) (orders_of half_line half_line)
    (ratios twice_along)

-- the facet row stands with its multiplier, so it need not be primitive; the primitive row has another sum
pub record ScaledDualsAreRead : Type 0 where
  pub scaled : TwiceHas MinimalDual (matrix 2 (map ratios (pair 0 2 ∷ [])))
  pub not_primitive : ¬ (TwiceHas MinimalDual (matrix 2 (map ratios (pair 0 1 ∷ []))))
