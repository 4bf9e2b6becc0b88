-- Which thinnings by wide numbers are given up, and which rows from sets: what holds, and what does not.
use Rattle.pm_vector.specs.Rows.{Row}
use Rattle.pm_elim.specs.LostExamples.{even_next, even_row, odd_next, odd_row, one_entry, triple, two_rows}
use Rattle.pm_geom.specs.declared.evidence.Evidence.TheVariants.{E4, E5Rows}
use Rattle.pm_incidence.specs.Lost.{IfThinWide, IsLostOnRowOf, IsLostReduction, IsLostSet, SetsAreLost, ThinningIsLost}
use Rattle.pm_incidence.specs.declared.fails.ThinFail.TheVariants.{Many, Memory, Wide}
use Rattle.std.specs.Prelude.{[], ◌∷◌}
use lib.IntN.{pos}

-- (1, 0, 0), on which neither (1, 1, 2^126) nor (1, 0, 2^126) vanishes
abbrev pub first_unit : Row
first_unit = triple (pos 1) (pos 0) (pos 0)

pub record LostThinningIsRead : Type 0 where
  -- reduced by (2, 1, -1) the row (1, 1, 2^126) is lost; reduced by (2, 0, -1) the row (1, 0, 2^126) is (0, 0, 1)
  pub row : IsLostOnRowOf (odd_row ∷ []) (0 ∷ []) (even_next ∷ odd_next ∷ [])
  pub not_row : ¬ (IsLostOnRowOf (even_row ∷ []) (0 ∷ []) (even_next ∷ []))
  -- as lines these rows are their own bases
  pub reduction : IsLostReduction 3 (odd_next ∷ []) (odd_row ∷ []) (first_unit ∷ [])
  pub not_reduction : ¬ (IsLostReduction 3 (even_next ∷ []) (even_row ∷ []) (first_unit ∷ []))
  -- with no inequality the row spans the lineality too, and that elimination is lost
  pub by_group : ThinningIsLost 3 (odd_next ∷ []) (odd_row ∷ []) []
  pub by_reduction : ThinningIsLost 3 (odd_next ∷ []) (odd_row ∷ []) (first_unit ∷ [])
  pub not_lost : ¬ (ThinningIsLost 3 (even_next ∷ []) (even_row ∷ []) (first_unit ∷ []))
  -- nor is it by a lineality of one row, where there is nothing to be reduced
  pub not_lines : ¬ (ThinningIsLost 3 [] (odd_row ∷ []) (first_unit ∷ []))
  -- want of memory says nothing, nor do too many facets; a number out of the range does
  pub memory : IfThinWide Memory ⊥
  pub many : IfThinWide (Many (E5Rows [])) ⊥
  pub not_wide : ¬ (IfThinWide (Wide (E4 odd_row odd_next)) ⊥)

pub record LostSetsAreRead : Type 0 where
  -- the set {0, 1} determines by both rows, whose null space is lost; {0} by the row (1), whose null space is not
  pub set : IsLostSet 2 [] two_rows ((0 ∷ 1 ∷ []) ∷ [])
  pub not_set : ¬ (IsLostSet 1 [] one_entry ((0 ∷ []) ∷ []))
  -- no set, no such rows
  pub no_set : ¬ (IsLostSet 2 [] two_rows [])
  -- of equations and inequalities together the null space is lost whatever the sets
  pub all : SetsAreLost 2 two_rows [] []
  pub by_set : SetsAreLost 2 [] two_rows ((0 ∷ 1 ∷ []) ∷ [])
  pub not_lost : ¬ (SetsAreLost 1 [] one_entry ((0 ∷ []) ∷ []))
