-- The definitions of optima read on a segment: what holds of it, and what does not.
use Rattle.pm_vector.specs.Cones.{InCone}
use Rattle.pm_vector.specs.Numbers.{Ratio}
use Rattle.pm_vector.specs.Rows.{Row}
use Rattle.pm_geom.specs.ProgramExamples.{ratio, row, wholes}
use Rattle.pm_geom.specs.declared.evidence.Evidence.TheVariants.{E4, E5Rows}
use Rattle.pm_simplex.specs.OptimumEvidence.{IsLevelRow, ShowsLevel, ShowsMaximum, ShowsProduct}
use Rattle.pm_optima.specs.Objectives.{AreZeroPlaces, IsPrimitiveLevel, IsScaleOf}
use Rattle.pm_optima.specs.Quotients.{Grows, HasNone, IsBest, IsBestOf, Rises, Turns}
use Rattle.pm_simplex.specs.Senses.{IsOptimum, objective_in, ratio_in, row_in, value_in}
use Rattle.pm_optima.specs.declared.quotients.Best.{Best}
use Rattle.pm_simplex.specs.declared.sense.Sense.TheVariants.{Maximal, Minimal}
use Rattle.pm_types.specs.Values.{finite, minus_infinity, plus_infinity}
use Rattle.std.specs.Prelude.{List, None, Some, [], ℕ, ◌∷◌, ◌≡◌, ◌^◌}
use lib.IntN.{negsuc, pos}

-- the objective x
abbrev pub x_alone : List Ratio
x_alone = wholes (row (pos 0) (pos 1))

-- the vertices 0 and 1 of the segment
abbrev pub ends : List Row
ends = row (pos 1) (pos 0) ∷ row (pos 1) (pos 1) ∷ []

-- the ray along the line, which is no point
abbrev pub along : List Row
along = row (pos 0) (pos 1) ∷ []

-- the row at the place i, with the quotient n
abbrev pub best_at : ℕ → ℕ → Best
best_at i n = record { place = i; quotient = ratio (pos n) (pos 1) }

pub record SensesAreRead : Type 0 where
  -- the greatest value of c is asked as it stands, and the least one by the opposites
  pub same_objective : objective_in Maximal x_alone ≡ x_alone
  pub opposite_objective : objective_in Minimal x_alone ≡ wholes (row (pos 0) (negsuc 0))
  pub other_objective : ¬ (objective_in Minimal x_alone ≡ x_alone)
  pub same_value : value_in Maximal plus_infinity ≡ plus_infinity
  pub opposite_value : value_in Minimal plus_infinity ≡ minus_infinity
  pub opposite_half : value_in Minimal (finite (ratio (pos 1) (pos 2))) ≡ finite (ratio (negsuc 0) (pos 2))
  pub same_ratio : ratio_in Maximal (ratio (pos 1) (pos 2)) ≡ ratio (pos 1) (pos 2)
  pub opposite_ratio : ratio_in Minimal (ratio (pos 1) (pos 2)) ≡ ratio (negsuc 0) (pos 2)
  pub same_row : row_in Maximal (row (pos 1) (negsuc 1)) ≡ row (pos 1) (negsuc 1)
  pub opposite_row : row_in Minimal (row (pos 1) (negsuc 1)) ≡ row (negsuc 0) (pos 2)
  -- on the segment x is at most 1 and at least 0, and 1 is not its least value
  pub greatest : IsOptimum Maximal (InCone ends []) x_alone (finite (ratio (pos 1) (pos 1)))
  pub least : IsOptimum Minimal (InCone ends []) x_alone (finite (ratio (pos 0) (pos 1)))
  pub not_least : ¬ (IsOptimum Minimal (InCone ends []) x_alone (finite (ratio (pos 1) (pos 1))))
  -- without a point the greatest value is -inf, and the least inf
  pub no_point : IsOptimum Maximal (InCone along []) x_alone minus_infinity
  pub no_point_least : IsOptimum Minimal (InCone along []) x_alone plus_infinity
  pub some_point : ¬ (IsOptimum Maximal (InCone ends []) x_alone minus_infinity)

pub record ObjectivesAreRead : Type 0 where
  -- (0, 1/2) is half of (0, 1), and not twice it; nor is it a negative multiple of a row
  pub half : IsScaleOf (ratio (pos 0) (pos 1) ∷ ratio (pos 1) (pos 2) ∷ []) (row (pos 0) (pos 1))
      (ratio (pos 1) (pos 2))
  pub twice : ¬ (IsScaleOf (ratio (pos 0) (pos 1) ∷ ratio (pos 1) (pos 2) ∷ []) (row (pos 0) (pos 1))
      (ratio (pos 2) (pos 1)))
  pub opposed : ¬ (IsScaleOf x_alone (row (pos 0) (negsuc 0)) (ratio (negsuc 0) (pos 1)))
  -- nor by a fraction without a denominator, nor of a shorter row, nor one of such fractions
  pub no_divisor : ¬ (IsScaleOf x_alone (row (pos 0) (pos 1)) (ratio (pos 1) (pos 0)))
  pub shorter : ¬ (IsScaleOf x_alone (pos 0 ∷ []) (ratio (pos 1) (pos 1)))
  pub no_fraction : ¬ (IsScaleOf (ratio (pos 1) (pos 0) ∷ []) (pos 1 ∷ []) (ratio (pos 1) (pos 1)))
  -- 1 - x vanishes where x is 1
  pub level : IsLevelRow x_alone (ratio (pos 1) (pos 1)) (wholes (row (pos 1) (negsuc 0)))
  pub not_level : ¬ (IsLevelRow x_alone (ratio (pos 1) (pos 1)) (wholes (row (pos 1) (pos 1))))
  pub other_value : ¬ (IsLevelRow x_alone (ratio (pos 1) (pos 1)) (wholes (row (pos 2) (negsuc 0))))
  pub longer : ¬ (IsLevelRow x_alone (ratio (pos 1) (pos 1)) (wholes (pos 1 ∷ negsuc 0 ∷ pos 0 ∷ [])))
  pub primitive : IsPrimitiveLevel x_alone (ratio (pos 1) (pos 1)) (row (pos 1) (negsuc 0))
  pub not_primitive : ¬ (IsPrimitiveLevel x_alone (ratio (pos 1) (pos 1)) (row (pos 1) (pos 1)))
  -- so it does at the second vertex, which may not be left out
  pub places : AreZeroPlaces (row (pos 1) (negsuc 0)) ends 2 (pos 1 ∷ [])
  pub left_out : ¬ (AreZeroPlaces (row (pos 1) (negsuc 0)) ends 2 [])
  pub not_there : ¬ (AreZeroPlaces (row (pos 1) (negsuc 0)) ends 2 (negsuc 0 ∷ []))

pub record QuotientsAreRead : Type 0 where
  -- of the quotients 0 and 1 the second is the greatest
  pub second : IsBest (row (pos 0) (pos 1)) ends 2 (best_at 1 1)
  pub not_first : ¬ (IsBest (row (pos 0) (pos 1)) ends 2 (best_at 0 0))
  pub other_quotient : ¬ (IsBest (row (pos 0) (pos 1)) ends 2 (best_at 1 2))
  pub later : ¬ (IsBest (row (pos 0) (pos 1)) ends 1 (best_at 1 1))
  pub no_quotient : ¬ (IsBest (pos 0 ∷ []) along 1 (best_at 0 0))
  -- but of the first row alone it is 0
  pub first : IsBestOf (row (pos 0) (pos 1)) ends 1 (Some (best_at 0 0))
  pub not_none : ¬ (IsBestOf (row (pos 0) (pos 1)) ends 2 None)
  -- a ray along the line has no quotient, and a vertex has one
  pub none : HasNone along 1
  pub some : ¬ (HasNone ends 2)
  -- a positive number of such a ray tells of a direction without bound, and one of a vertex does not
  pub rises : Rises (pos 1 ∷ []) along 0
  pub level : ¬ (Rises (pos 0 ∷ []) along 0)
  pub vertex : ¬ (Rises (row (pos 0) (pos 1)) ends 1)
  pub no_ray : ¬ (Rises (row (pos 1) (pos 1)) along 1)
  -- so does any number of a line but 0
  pub turns : Turns (row (pos 0) (negsuc 0)) 1
  pub still : ¬ (Turns (row (pos 0) (negsuc 0)) 0)
  pub beyond : ¬ (Turns (row (pos 0) (negsuc 0)) 2)
  pub grows : Grows (pos 1 ∷ []) along []
  pub grows_by_line : Grows (pos 0 ∷ []) along (negsuc 0 ∷ [])
  pub ends_there : ¬ (Grows (pos 0 ∷ []) along (pos 0 ∷ []))

-- a row whose product with itself leaves the range
abbrev pub large : Row
large = pos (2 ^ 64) ∷ []

pub record EvidenceIsRead : Type 0 where
  -- the evidence names the row, and one of the others, and nothing else is evidence of a product
  pub product : ShowsProduct large (large ∷ []) (E4 large large)
  pub other_row : ¬ (ShowsProduct (pos 1 ∷ []) (large ∷ []) (E4 large large))
  pub not_listed : ¬ (ShowsProduct large [] (E4 large large))
  pub other_evidence : ¬ (ShowsProduct large (large ∷ []) (E5Rows []))
  -- the second row of a level that is not made is (1, 0, .., 0)
  pub other_unit : ¬ (ShowsLevel large x_alone (ratio (pos 1) (pos 1)) (E4 large (row (pos 0) (pos 1))))
  -- a ray along the line is no point at which the optimum stands
  pub no_point : ¬ (ShowsMaximum large x_alone along [] (E4 large (row (pos 0) (pos 1))))
