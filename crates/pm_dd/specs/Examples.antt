-- The definitions read on the quadrant x >= 0, y >= 0, on small lists and on numbers: what holds of them, and what
-- does not.
use Rattle.std.specs.Prelude.{[], ◌-◌, ◌^◌, ◌∷◌, List}
use Rattle.pm_vector.specs.Rows.{Row}
use Rattle.pm_vector.specs.BasisExamples.{pair}
use Rattle.pm_geom.specs.Cones.{CutOut}
use Rattle.pm_geom.specs.Generators.{AreGenerators, IsBefore}
use Rattle.pm_geom.specs.StatedOrder.{IsStatedOrder}
use Rattle.pm_dd.specs.Building.{StandsFor}
use Rattle.pm_dd.specs.Mixed.{HaveSameRows}
use lib.IntN.{neg_ℤ, negsuc, pos}

-- the rows y >= 0 and x >= 0
abbrev pub quadrant : List Row
quadrant = pair 0 1 ∷ pair 1 0 ∷ []

pub record QuadrantIsRead : Type 0 where
  -- (0,1) comes before (1,0), not after it, and no row before itself
  pub before : IsBefore (pair 0 1) (pair 1 0)
  pub not_before : ¬ (IsBefore (pair 1 0) (pair 0 1))
  pub not_itself : ¬ (IsBefore (pair 1 0) (pair 1 0))
  -- the extreme rays are (0,1) and (1,0), and there is no line
  pub generators : AreGenerators 2 (CutOut quadrant) (pair 0 1 ∷ pair 1 0 ∷ []) []
  -- not in descending order, not with a row that is not primitive, not with one ray alone, and not with a line
  pub descending : ¬ (AreGenerators 2 (CutOut quadrant) (pair 1 0 ∷ pair 0 1 ∷ []) [])
  pub doubled : ¬ (AreGenerators 2 (CutOut quadrant) (pair 0 2 ∷ pair 1 0 ∷ []) [])
  pub one_ray : ¬ (AreGenerators 2 (CutOut quadrant) (pair 0 1 ∷ []) [])
  pub with_line : ¬ (AreGenerators 2 (CutOut quadrant) (pair 0 1 ∷ pair 1 0 ∷ []) (pair 1 0 ∷ []))
  -- of (1,0), (2,0), (0,1) the second does not enlarge the span, so it comes last
  pub stated : IsStatedOrder (pair 1 0 ∷ pair 2 0 ∷ pair 0 1 ∷ []) (pair 1 0 ∷ pair 0 1 ∷ pair 2 0 ∷ [])
  pub not_stated
      : ¬ (IsStatedOrder (pair 1 0 ∷ pair 2 0 ∷ pair 0 1 ∷ []) (pair 1 0 ∷ pair 2 0 ∷ pair 0 1 ∷ []))
  -- another order has the same rows, and a list without one of them has not
  pub turned : HaveSameRows (pair 0 1 ∷ pair 1 0 ∷ []) (pair 1 0 ∷ pair 0 1 ∷ [])
  pub one_less : ¬ (HaveSameRows (pair 0 1 ∷ pair 1 0 ∷ []) (pair 1 0 ∷ []))
  -- -5 stands for itself, and the end of the range on its side for 2^200 and for -2^127
  pub itself : StandsFor (negsuc 4) (negsuc 4)
  pub end_above : StandsFor (pos (2 ^ 200)) (pos (2 ^ 127 - 1))
  pub end_below : StandsFor (neg_ℤ (pos (2 ^ 127))) (neg_ℤ (pos (2 ^ 127 - 1)))
  -- not an end for 5, and not the end on the other side
  pub not_end : ¬ (StandsFor (pos 5) (pos (2 ^ 127 - 1)))
  pub not_other_end : ¬ (StandsFor (pos (2 ^ 200)) (neg_ℤ (pos (2 ^ 127 - 1))))
