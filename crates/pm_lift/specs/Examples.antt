-- The definitions read on small lists of sites: what holds of them, and what does not.
use Rattle.std.specs.Prelude.{ℕ, ◌≡◌, List, [], ◌∷◌}
use Rattle.pm_vector.specs.Numbers.{Ratio}
use Rattle.pm_vector.specs.Rows.{Row}
use Rattle.pm_geom.specs.Graphs.{holds}
use Rattle.pm_geom.specs.declared.evidence.Evidence.TheVariants.{E4}
use Rattle.pm_geom.specs.Cells.{AreCells, AreSites, IsCell, IsLowerFace, IsUnder, Touches, square_of, squares}
use Rattle.pm_lift.specs.Lifting.{AreLifted, AreLiftedRows, AreRaisedRows, lifted, raised, upwards}
use Rattle.pm_lift.specs.Refusals.{IsLiftFail, IsRaiseFail}
use Rattle.pm_lift.specs.Spheres.{HasAffineFunction, HasEmptySphere, distance_square, height_above}
use Rattle.pm_lift.specs.ZeroSets.{AreLowerSets, lower_sets, places_from}
use Rattle.pm_lift.specs.declared.fails.LiftFail.TheVariants.{Many, Memory, Wide}
use lib.IntN.{ℤ, negsuc, pos}

-- n / d
abbrev pub ratio_of : ℤ → ℤ → Ratio
ratio_of n d = record { num = n; den = d }

abbrev pub whole : ℕ → Ratio
whole k = ratio_of (pos k) (pos 1)

abbrev pub pair : ℤ → ℤ → Row
pair a b = a ∷ b ∷ []

-- the site of a point of a line
abbrev pub point : ℕ → Row
point k = pair (pos 1) (pos k)

-- 0, 1 and 2 on a line
abbrev pub three_sites : List Row
three_sites = point 0 ∷ point 1 ∷ point 2 ∷ []

-- the site at 1 above the segment between the others, on it, and the height 5 over the site at 0
abbrev pub peak : List Ratio
peak = whole 0 ∷ whole 5 ∷ whole 0 ∷ []

abbrev pub flat : List Ratio
flat = whole 0 ∷ whole 0 ∷ whole 0 ∷ []

abbrev pub slope : List Ratio
slope = whole 5 ∷ whole 0 ∷ whole 0 ∷ []

-- 1/2 on a line, and the height 1/2
abbrev pub half : List Row
half = pair (pos 2) (pos 1) ∷ []

abbrev pub one_half : List Ratio
one_half = ratio_of (pos 1) (pos 2) ∷ []

-- 0, 1 and 3 on a line
abbrev pub uneven : List Row
uneven = point 0 ∷ point 1 ∷ point 3 ∷ []

-- the corners of the unit square
abbrev pub corners : List Row
corners = (pos 1 ∷ pos 0 ∷ pos 0 ∷ []) ∷ (pos 1 ∷ pos 1 ∷ pos 0 ∷ []) ∷ (pos 1 ∷ pos 0 ∷ pos 1 ∷ [])
    ∷ (pos 1 ∷ pos 1 ∷ pos 1 ∷ []) ∷ []

-- sites with their heights, and the affine functions below these
pub record SitesAreRead : Type 0 where
  pub three : AreSites 2 three_sites peak
  -- the rows have two entries, a first entry is positive, and so is a denominator
  pub not_of_three : ¬ (AreSites 3 three_sites peak)
  pub not_a_direction : ¬ (AreSites 2 (pair (pos 0) (pos 1) ∷ []) (whole 0 ∷ []))
  pub no_height : ¬ (AreSites 2 (point 0 ∷ []) (ratio_of (pos 1) (pos 0) ∷ []))
  -- the function 0 is at most the heights 0, 5 and 0, and equal to them at the ends alone
  pub under : IsUnder 2 three_sites peak (pair (pos 0) (pos 0)) (pos 1)
  pub at_end : Touches three_sites peak (pair (pos 0) (pos 0)) (pos 1) 2
  pub not_between : ¬ (Touches three_sites peak (pair (pos 0) (pos 0)) (pos 1) 1)
  -- the function x is above the height at 2; and 0/0 is no function, nor has one too few coefficients
  pub not_above : ¬ (IsUnder 2 three_sites peak (pair (pos 0) (pos 1)) (pos 1))
  pub not_by_zero : ¬ (IsUnder 2 three_sites peak (pair (pos 0) (pos 0)) (pos 0))
  pub not_shorter : ¬ (IsUnder 2 three_sites peak [] (pos 1))
  -- at 1/2 the function (1 + x) / 3 is 1/2, and the function (1 + 2 x) / 3 is 2/3
  pub at_half : Touches half one_half (pair (pos 1) (pos 1)) (pos 3) 0
  pub not_at_half : ¬ (Touches half one_half (pair (pos 1) (pos 2)) (pos 3) 0)

pub record LowerFacesAreRead : Type 0 where
  -- the segment below the peak, and one of its ends
  pub ends : IsLowerFace 2 three_sites peak (holds (0 ∷ 2 ∷ []))
  pub end : IsLowerFace 2 three_sites peak (holds (0 ∷ []))
  -- an upper face is none, nor is the peak, nor are all three
  pub not_upper : ¬ (IsLowerFace 2 three_sites peak (holds (0 ∷ 1 ∷ [])))
  pub not_peak : ¬ (IsLowerFace 2 three_sites peak (holds (1 ∷ [])))
  pub not_all : ¬ (IsLowerFace 2 three_sites peak (holds (0 ∷ 1 ∷ 2 ∷ [])))
  -- of three on one segment none is left out
  pub all_flat : IsLowerFace 2 three_sites flat (holds (0 ∷ 1 ∷ 2 ∷ []))
  pub not_without_middle : ¬ (IsLowerFace 2 three_sites flat (holds (0 ∷ 2 ∷ [])))
  -- with the height 5 over another site the ends are none
  pub on_slope : IsLowerFace 2 three_sites slope (holds (0 ∷ 1 ∷ []))
  pub not_on_slope : ¬ (IsLowerFace 2 three_sites slope (holds (0 ∷ 2 ∷ [])))

pub record CellsAreRead : Type 0 where
  -- the segment below the peak, but not one of its ends, which is not maximal, nor an upper face
  pub ends : IsCell 2 three_sites peak (holds (0 ∷ 2 ∷ []))
  pub not_end : ¬ (IsCell 2 three_sites peak (holds (0 ∷ [])))
  pub not_upper : ¬ (IsCell 2 three_sites peak (holds (0 ∷ 1 ∷ [])))
  -- it is the only cell
  pub cells : AreCells 2 three_sites peak ((0 ∷ 2 ∷ []) ∷ [])
  -- not with the peak, not without that cell, not with a lower face more
  pub not_with_peak : ¬ (AreCells 2 three_sites peak ((0 ∷ 1 ∷ 2 ∷ []) ∷ []))
  pub not_none : ¬ (AreCells 2 three_sites peak [])
  pub not_end_too : ¬ (AreCells 2 three_sites peak ((0 ∷ []) ∷ (0 ∷ 2 ∷ []) ∷ []))
  -- not with falling places, and not twice
  pub not_falling : ¬ (AreCells 2 three_sites peak ((2 ∷ 0 ∷ []) ∷ []))
  pub not_twice : ¬ (AreCells 2 three_sites peak ((0 ∷ 2 ∷ []) ∷ (0 ∷ 2 ∷ []) ∷ []))
  -- of no sites the empty set is the one cell
  pub no_sites : AreCells 2 [] [] ([] ∷ [])
  pub not_no_cell : ¬ (AreCells 2 [] [] [])

pub record DelaunayIsRead : Type 0 where
  -- the square of 1/2 is 1/4; that of 0, 1 and 3
  pub square : square_of (pair (pos 2) (pos 1)) ≡ ratio_of (pos 1) (pos 4)
  pub three_squares : squares uneven ≡ whole 0 ∷ whole 1 ∷ whole 9 ∷ []
  -- the segments between neighbours are the cells, in this order; not the ends, not all three
  pub neighbours : AreCells 2 uneven (squares uneven) ((0 ∷ 1 ∷ []) ∷ (1 ∷ 2 ∷ []) ∷ [])
  pub not_turned : ¬ (AreCells 2 uneven (squares uneven) ((1 ∷ 2 ∷ []) ∷ (0 ∷ 1 ∷ []) ∷ []))
  pub not_ends : ¬ (IsCell 2 uneven (squares uneven) (holds (0 ∷ 2 ∷ [])))
  pub not_all : ¬ (IsCell 2 uneven (squares uneven) (holds (0 ∷ 1 ∷ 2 ∷ [])))
  -- x^2 - x is 0 at 1 and 6 at 3; at 1/2 it is -1/4, which the positive number 4 makes -1
  pub at_one : height_above (pair (pos 0) (pos 1)) (pos 1) (point 1) ≡ pos 0
  pub at_three : height_above (pair (pos 0) (pos 1)) (pos 1) (point 3) ≡ pos 6
  pub at_half : height_above (pair (pos 0) (pos 1)) (pos 1) (pair (pos 2) (pos 1)) ≡ negsuc 0
  pub function : HasAffineFunction 2 uneven (holds (0 ∷ 1 ∷ []))
  pub no_function : ¬ (HasAffineFunction 2 uneven (holds (0 ∷ 2 ∷ [])))
  -- from 1/2 to 3 the distance is 5/2
  pub distance : distance_square (pair (pos 2) (pos 1)) (point 3) ≡ ratio_of (pos 25) (pos 4)
  pub sphere : HasEmptySphere 2 uneven (holds (0 ∷ 1 ∷ []))
  pub no_sphere : ¬ (HasEmptySphere 2 uneven (holds (0 ∷ 2 ∷ [])))
  -- all corners of the square are one cell, and three of them are none
  pub all_corners : IsCell 3 corners (squares corners) (holds (0 ∷ 1 ∷ 2 ∷ 3 ∷ []))
  pub not_three : ¬ (IsCell 3 corners (squares corners) (holds (0 ∷ 1 ∷ 2 ∷ [])))

-- the point 1/2 at the height 1/2, and on the paraboloid
pub record RowsAreRead : Type 0 where
  pub lifted : lifted (pair (pos 2) (pos 1)) (ratio_of (pos 1) (pos 2)) ≡ pos 4 ∷ pos 2 ∷ pos 2 ∷ []
  pub raised : raised (pair (pos 2) (pos 1)) ≡ pos 4 ∷ pos 2 ∷ pos 1 ∷ []
  pub upwards : upwards 2 ≡ pos 0 ∷ pos 0 ∷ pos 1 ∷ []
  -- a multiple of the lifted row will do; not one of another height, not the opposite, and not no row
  pub multiple : AreLifted 2 half one_half ((pos 2 ∷ pos 1 ∷ pos 1 ∷ []) ∷ [])
  pub not_higher : ¬ (AreLifted 2 half one_half ((pos 2 ∷ pos 1 ∷ pos 2 ∷ []) ∷ []))
  pub not_opposite : ¬ (AreLifted 2 half one_half ((negsuc 1 ∷ negsuc 0 ∷ negsuc 0 ∷ []) ∷ []))
  pub not_none : ¬ (AreLifted 2 half one_half [])
  -- the primitive row of the lifted row of the primitive row of the site
  pub primitive : AreLiftedRows (pair (pos 4) (pos 2) ∷ []) one_half ((pos 2 ∷ pos 1 ∷ pos 1 ∷ []) ∷ [])
  pub not_doubled : ¬ (AreLiftedRows half one_half ((pos 4 ∷ pos 2 ∷ pos 2 ∷ []) ∷ []))
  pub not_fewer : ¬ (AreLiftedRows half one_half [])
  pub on_paraboloid : AreRaisedRows (pair (pos 4) (pos 2) ∷ []) ((pos 4 ∷ pos 2 ∷ pos 1 ∷ []) ∷ [])
  pub not_tripled : ¬ (AreRaisedRows half ((pos 12 ∷ pos 6 ∷ pos 3 ∷ []) ∷ []))
  pub not_without_row : ¬ (AreRaisedRows half [])

-- the points 0, 1 and 2 lifted to the heights 0, 5 and 0
abbrev pub peak_rows : List Row
peak_rows = (pos 1 ∷ pos 0 ∷ pos 0 ∷ []) ∷ (pos 1 ∷ pos 1 ∷ pos 5 ∷ []) ∷ (pos 1 ∷ pos 2 ∷ pos 0 ∷ []) ∷ []

pub record PlacesAreRead : Type 0 where
  -- where the last entry is 0
  pub counted_from_0 : places_from 0 (pos 0 ∷ pos 0 ∷ pos 1 ∷ []) peak_rows ≡ 0 ∷ 2 ∷ []
  pub counted_from_3 : places_from 3 (pos 0 ∷ pos 0 ∷ pos 1 ∷ []) peak_rows ≡ 3 ∷ 5 ∷ []
  -- of a row that ends with 0 or -1 the places do not count
  pub sets : lower_sets 2 ((pos 0 ∷ pos 1 ∷ pos 0 ∷ []) ∷ (pos 0 ∷ pos 0 ∷ pos 1 ∷ [])
      ∷ (pos 0 ∷ pos 5 ∷ negsuc 0 ∷ []) ∷ []) peak_rows ≡ (0 ∷ 2 ∷ []) ∷ []
  pub not_falling : ¬ (AreLowerSets 2 peak_rows ((0 ∷ 2 ∷ []) ∷ (0 ∷ 1 ∷ []) ∷ []))

abbrev pub greatest : ℤ
greatest = pos 170141183460469231731687303715884105727

-- the point of the greatest number of the range
abbrev pub far : List Row
far = pair (pos 1) greatest ∷ []

pub record RefusalsAreRead : Type 0 where
  -- at the height 1/2 twice that number leaves the range
  pub wide : IsLiftFail 2 far one_half (Wide (E4 (greatest ∷ []) (pos 2 ∷ [])))
  -- 2 times 2 does not, and at the height 1 no number is taken twice
  pub not_small : ¬ (IsLiftFail 2 far one_half (Wide (E4 (pos 2 ∷ []) (pos 2 ∷ []))))
  pub not_twice : ¬ (IsLiftFail 2 far (whole 1 ∷ []) (Wide (E4 (greatest ∷ []) (pos 2 ∷ []))))
  -- its square leaves the range; 2 times 2 does not
  pub square : IsRaiseFail 2 far (Wide (E4 (greatest ∷ []) (greatest ∷ [])))
  pub not_four : ¬ (IsRaiseFail 2 far (Wide (E4 (pos 2 ∷ []) (pos 2 ∷ []))))
  -- want of memory needs no evidence; a product is no evidence of too many rays
  pub memory : IsLiftFail 2 far one_half Memory
  pub not_many : ¬ (IsLiftFail 2 far one_half (Many (E4 (greatest ∷ []) (pos 2 ∷ []))))
