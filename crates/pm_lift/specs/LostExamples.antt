-- Which lifted rows are lost by wide numbers, and which cells: what holds, and what does not.
use Rattle.pm_elim.specs.LostExamples.{odd_next, odd_row, triple}
use Rattle.pm_geom.specs.declared.evidence.Evidence.{Evidence}
use Rattle.pm_lift.specs.Examples.{far, greatest, one_half, pair, ratio_of}
use Rattle.pm_lift.specs.Lost.{HasLostLiftedRow, HasLostRaisedRow, IfWideLift, LiftedRowIsLost, LiftingIsLost, RaisedRowIsLost, RaisingIsLost, RowsAreLost}
use Rattle.pm_lift.specs.declared.fails.LiftFail.TheVariants.{Many, Memory, Wide}
use Rattle.pm_vector.specs.Numbers.{Ratio}
use Rattle.pm_vector.specs.Rows.{Row}
use Rattle.std.specs.Prelude.{List, [], ◌-◌, ◌∷◌, ◌^◌}
use lib.IntN.{negsuc, pos}

-- the point ((2^127 - 1) / 2, 1 / 2) of the plane
abbrev pub half_far : Row
half_far = triple (pos 2) greatest (pos 1)

-- the point ((2^64 - 1) / 2, 1 / 2)
abbrev pub half_square : Row
half_square = triple (pos 2) (pos (2 ^ 64 - 1)) (pos 1)

-- 1/2 and 1 on a line, and the heights -1/2 and 2^126: the lifted rows are (2, 1, -1) and (1, 1, 2^126)
abbrev pub two_sites : List Row
two_sites = pair (pos 2) (pos 1) ∷ pair (pos 1) (pos 1) ∷ []

abbrev pub two_heights : List Ratio
two_heights = ratio_of (negsuc 0) (pos 2) ∷ ratio_of (pos (2 ^ 126)) (pos 1) ∷ []

pub record LostRowsAreRead : Type 0 where
  -- (2, 2^128 - 2, 1) is out of the range
  pub lifted : LiftedRowIsLost (pair (pos 1) greatest) (ratio_of (pos 1) (pos 2))
  -- but (4, 2^128 - 2, 2, 2) is twice (2, 2^127 - 1, 1, 1)
  pub not_lifted : ¬ (LiftedRowIsLost half_far (ratio_of (pos 1) (pos 2)))
  -- the square of 2^127 - 1 is out of the range
  pub raised : RaisedRowIsLost (pair (pos 1) greatest)
  -- so is 2^128 - 2^65 + 2; but (4, 2^65 - 2, 2, 2^128 - 2^65 + 2) is twice (2, 2^64 - 1, 1, 2^127 - 2^64 + 1)
  pub not_raised : ¬ (RaisedRowIsLost half_square)
  -- of some site
  pub some_lifted : HasLostLiftedRow far one_half
  pub none_lifted : ¬ (HasLostLiftedRow (half_far ∷ []) one_half)
  pub some_raised : HasLostRaisedRow far
  pub none_raised : ¬ (HasLostRaisedRow (half_square ∷ []))

pub record LostCellsAreRead : Type 0 where
  -- a refusal for a number out of the range says so; too many rays and want of memory say nothing
  pub out_of_range : (e : Evidence) → ¬ (IfWideLift (Wide e) ⊥)
  pub of_many : (e : Evidence) → IfWideLift (Many e) ⊥
  pub of_memory : IfWideLift Memory ⊥
  -- the elimination of (2, 1, -1) and (1, 1, 2^126) is lost, and that of the row upwards alone is not
  pub rows : RowsAreLost 2 (odd_row ∷ odd_next ∷ [])
  pub not_rows : ¬ (RowsAreLost 0 [])
  -- by a lifted row, and by all of them
  pub lifting_of_row : LiftingIsLost 2 far one_half
  pub lifting_of_rows : LiftingIsLost 2 two_sites two_heights
  pub not_lifting : ¬ (LiftingIsLost 0 [] [])
  -- by a raised row
  pub raising : RaisingIsLost 2 far
  pub not_raising : ¬ (RaisingIsLost 0 [])
