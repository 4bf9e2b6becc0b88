-- The definitions of wide programs read on a segment: what holds of it, and what does not.
use Rattle.pm_geom.specs.ProgramExamples.{ratio, row, segment}
use Rattle.pm_vector.specs.Numbers.{Ratio}
use Rattle.pm_vector.specs.Rows.{Row}
use Rattle.pm_wide_programs.specs.CommonValues.{IsCommonValue}
use Rattle.pm_wide_programs.specs.Shown.{IsShownInfeasible, IsShownUnbounded, IsShownValue}
use Rattle.pm_wide_programs.specs.Slacks.{AreLevelPlaces, IsAhead, IsGreatestAt, Rises, StandsAt, Turns, slack_of}
use Rattle.std.specs.Prelude.{List, [], ◌∷◌, ◌≡◌}
use lib.IntN.{negsuc, pos, ℤ}

-- the row (0, 1), which is twice the objective x/2
abbrev pub twice : Row
twice = row (pos 0) (pos 1)

-- one half
abbrev pub half : Ratio
half = ratio (pos 1) (pos 2)

-- of the segment and x/2: the value at the point U, and the multipliers Y over d, have v in common
abbrev pub IsCommon : Row → ℤ → Row → Ratio → Type 0
IsCommon U d Y v = IsCommonValue segment [] (pos 2) twice U d Y v

pub record CommonValuesAreRead : Type 0 where
  -- x/2 is 1/2 where x is 1, and 3 x + 3 (1 - x) is 3, which is 1/2 over 6
  pub common : IsCommon (row (pos 2) (pos 2)) (pos 3) (row (pos 0) (pos 3)) half
  -- no other value is common, nor the same one in other terms
  pub other_value : ¬ (IsCommon (row (pos 2) (pos 2)) (pos 3) (row (pos 0) (pos 3)) (ratio (pos 1) (pos 1)))
  pub other_terms : ¬ (IsCommon (row (pos 2) (pos 2)) (pos 3) (row (pos 0) (pos 3)) (ratio (pos 2) (pos 4)))
  -- where x is 0 there is less than the multipliers tell
  pub other_point : (v : Ratio) → ¬ (IsCommon (row (pos 2) (pos 0)) (pos 3) (row (pos 0) (pos 3)) v)
  -- a direction is no point
  pub direction : (v : Ratio) → ¬ (IsCommon (row (pos 0) (pos 1)) (pos 3) (row (pos 0) (pos 3)) v)
  -- the objective may not be turned, and 3 x + 2 (1 - x) is no constant
  pub turned : ¬ (IsCommon (row (pos 2) (pos 2)) (negsuc 2) (row (pos 0) (negsuc 2)) half)
  pub no_constant : (v : Ratio) → ¬ (IsCommon (row (pos 2) (pos 2)) (pos 3) (row (pos 0) (pos 2)) v)

-- no inequality, but the equation x0 = 0, which no point meets
abbrev pub far_alone : List Row
far_alone = row (pos 1) (pos 0) ∷ []

pub record ShownAreRead : Type 0 where
  -- what the value and the multipliers have in common is shown where the point solves the rows and no multiplier of an
  -- inequality is negative
  pub value : IsShownValue segment [] (pos 2) twice (row (pos 2) (pos 2)) (pos 3) (row (pos 0) (pos 3)) half
  pub not_outside : (v : Ratio)
      → ¬ (IsShownValue segment [] (pos 2) twice (row (pos 1) (pos 2)) (pos 3) (row (pos 0) (pos 3)) v)
  pub not_down : (d : ℤ) (v : Ratio)
      → ¬ (IsShownValue segment [] (pos 2) twice (row (pos 2) (pos 2)) d (row (pos 0) (negsuc 0)) v)
  pub not_other : ¬ (IsShownValue segment [] (pos 2) twice (row (pos 2) (pos 2)) (pos 3) (row (pos 0) (pos 3))
      (ratio (pos 1) (pos 1)))
  -- x grows along the line, where there are no rows; not from a direction, nor to a point, nor the other way
  pub grows : IsShownUnbounded [] [] twice (row (pos 1) (pos 0)) (row (pos 0) (pos 1))
  pub not_from_a_direction : ¬ (IsShownUnbounded [] [] twice (row (pos 0) (pos 1)) (row (pos 0) (pos 1)))
  pub not_to_a_point : ¬ (IsShownUnbounded [] [] twice (row (pos 1) (pos 0)) (row (pos 1) (pos 1)))
  pub not_back : ¬ (IsShownUnbounded [] [] twice (row (pos 1) (pos 0)) (row (pos 0) (negsuc 0)))
  pub not_out : ¬ (IsShownUnbounded segment [] twice (row (pos 1) (pos 0)) (row (pos 0) (pos 1)))
  pub not_from_outside : ¬ (IsShownUnbounded segment [] twice (row (pos 1) (pos 2)) (row (pos 0) (pos 1)))
  -- x0 = 0, taken -1 times, leaves no point; taken once, or not as an equation, it shows nothing
  pub none : IsShownInfeasible [] far_alone (negsuc 0 ∷ [])
  pub not_up : ¬ (IsShownInfeasible [] far_alone (pos 1 ∷ []))
  pub not_of_an_inequality : ¬ (IsShownInfeasible far_alone [] (negsuc 0 ∷ []))
  pub not_constant : ¬ (IsShownInfeasible [] (row (pos 1) (pos 1) ∷ []) (negsuc 0 ∷ []))

-- the vertices 0 and 1 of the segment
abbrev pub ends : List Row
ends = row (pos 1) (pos 0) ∷ row (pos 1) (pos 1) ∷ []

-- the ray along the line, which is no point
abbrev pub along : List Row
along = row (pos 0) (pos 1) ∷ []

pub record SlacksAreRead : Type 0 where
  -- at 0 the objective x/2 is a half below 1/2, taken 4 times; at 1 it is there, and 1/2 above 0, taken twice
  pub below : slack_of (pos 2) twice half (row (pos 1) (pos 0)) ≡ pos 2
  pub there : StandsAt (pos 2) twice (row (pos 1) (pos 1)) half
  pub above : slack_of (pos 2) twice (ratio (pos 0) (pos 1)) (row (pos 1) (pos 1)) ≡ negsuc 0
  -- it is not 1/2 at 0; a direction is no point; and a value has a positive denominator
  pub not_there : ¬ (StandsAt (pos 2) twice (row (pos 1) (pos 0)) half)
  pub no_point : ¬ (StandsAt (pos 2) twice (row (pos 0) (pos 0)) half)
  pub turned : ¬ (StandsAt (pos 2) twice (row (pos 1) (pos 1)) (ratio (negsuc 0) (negsuc 1)))
  -- so 1/2 is its greatest value at the vertices; 0 is exceeded, and 1 stands nowhere
  pub greatest : IsGreatestAt (pos 2) twice ends half
  pub exceeded : ¬ (IsGreatestAt (pos 2) twice ends (ratio (pos 0) (pos 1)))
  pub nowhere : ¬ (IsGreatestAt (pos 2) twice ends (ratio (pos 1) (pos 1)))
  -- and 1/2 stands at the second vertex, which may not be left out
  pub places : AreLevelPlaces (pos 2) twice half ends 2 (pos 1 ∷ [])
  pub left_out : ¬ (AreLevelPlaces (pos 2) twice half ends 2 [])
  pub other_place : ¬ (AreLevelPlaces (pos 2) twice half ends 2 (pos 0 ∷ pos 1 ∷ []))

pub record DirectionsAreRead : Type 0 where
  -- the vertices are points, and the ray along the line is none
  pub ahead : IsAhead ends 1
  pub not_ahead : ¬ (IsAhead along 0)
  pub no_ray : ¬ (IsAhead ends 2)
  -- along the line x/2 grows; but a vertex is no direction, and there is no second ray
  pub rises : Rises twice along 0
  pub falls : ¬ (Rises (row (pos 0) (negsuc 0)) along 0)
  pub vertex : ¬ (Rises twice ends 1)
  pub no_second : ¬ (Rises twice along 1)
  -- a line may be run along either way, unless the objective is the same all along it
  pub turns : Turns (row (pos 0) (negsuc 0)) along 0
  pub still : ¬ (Turns (row (pos 1) (pos 0)) along 0)
  pub no_line : ¬ (Turns twice along 1)
