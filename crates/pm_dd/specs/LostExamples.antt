-- The definitions of what is lost read on rows of three entries, and on cones of the plane and of the line.
use Rattle.std.specs.Prelude.{[], ◌^◌, ◌∷◌, List}
use Rattle.pm_vector.specs.Rows.{Row}
use Rattle.pm_vector.specs.BasisExamples.{pair}
use Rattle.pm_bits.specs.Table.{Table}
use Rattle.pm_elim.specs.LostExamples.{one_entry, two_rows}
use Rattle.pm_dd.specs.Lost.{CombinationIsLost, DescriptionIsLost, DualsAreLost, HasWideRay, HasWideRayOnRows, IfCombinationLost, IfStepLost, IfWide, IsLostSource, IsLostTablePair, PartsAreLost, StartIsLost}
use Rattle.pm_dd.specs.declared.fails.CombinationFail.TheVariants.{First, NoMemory}
use Rattle.pm_dd.specs.declared.fails.DdFail.TheVariants.{Memory}
use Rattle.pm_dd.specs.declared.fails.StepFail.TheVariants.{Memory as StepMemory, Product}
use lib.IntN.{neg_ℤ, negsuc, pos}

-- (1, 0, 0)
abbrev pub first_row : Row
first_row = pos 1 ∷ pos 0 ∷ pos 0 ∷ []

-- (1, 1, 2^126)
abbrev pub long_ray : Row
long_ray = pos 1 ∷ pos 1 ∷ pos (2 ^ 126) ∷ []

-- (-2, -1, 1)
abbrev pub other_ray : Row
other_ray = negsuc 1 ∷ negsuc 0 ∷ pos 1 ∷ []

-- (-2, -2, 1)
abbrev pub opposed_ray : Row
opposed_ray = negsuc 1 ∷ negsuc 1 ∷ pos 1 ∷ []

-- the rows y >= 0 and x >= 2^127 y
abbrev pub narrow_cone : List Row
narrow_cone = pair 0 1 ∷ (pos 1 ∷ neg_ℤ (pos (2 ^ 127)) ∷ []) ∷ []

-- two rays that vanish on no row
abbrev pub two_sets : Table
two_sets = record { row_len = 0; rows = [] ∷ [] ∷ [] }

pub record LossesAreRead : Type 0 where
  -- the combination of the first two is (0, 1, 2^127 + 1), which is out of the range
  pub lost : CombinationIsLost first_row long_ray other_ray
  -- that of the first and the third is (0, 0, 2^127 + 1), whose primitive row is (0, 0, 1)
  pub not_lost : ¬ (CombinationIsLost first_row long_ray opposed_ray)
  -- a refusal for a number out of the range says so, and want of memory says nothing
  pub out_of_range : ¬ (IfCombinationLost First ⊥)
  pub of_memory : IfCombinationLost NoMemory ⊥
  pub no_product : ¬ (IfStepLost (Product 0) ⊥)
  pub no_step_memory : IfStepLost StepMemory ⊥
  pub no_memory : IfWide Memory ⊥
  -- both are pairs for the row (1, 0, 0)
  pub source : IsLostSource (first_row ∷ []) 0 (long_ray ∷ other_ray ∷ [])
  pub no_source : ¬ (IsLostSource (first_row ∷ []) 0 (long_ray ∷ opposed_ray ∷ []))
  pub table_pair : IsLostTablePair first_row (long_ray ∷ other_ray ∷ []) two_sets 0 1
  pub no_table_pair : ¬ (IsLostTablePair first_row (long_ray ∷ opposed_ray ∷ []) two_sets 0 1)
  -- the narrow cone has the ray (2^127, 1)
  pub ray : HasWideRay 2 narrow_cone
  -- x >= 0 has the one ray (1), and no rows have none
  pub no_ray : ¬ (HasWideRay 1 one_entry)
  pub whole_plane : ¬ (HasWideRay 2 [])
  -- so it is on each list whose rows are taken in this order: the one row of the line is such a list
  pub on_rows : HasWideRayOnRows 2 [] narrow_cone 2
  pub not_on_rows : ¬ (HasWideRayOnRows 1 [] one_entry 1)
  -- by the null space of two rows that is lost, and by that of the row (1), which is not
  pub duals : DualsAreLost 2 two_rows
  pub no_duals : ¬ (DualsAreLost 1 one_entry)
  pub start : StartIsLost 2 two_rows
  pub no_start : ¬ (StartIsLost 1 one_entry)
  pub description : DescriptionIsLost 2 narrow_cone
  pub started : DescriptionIsLost 2 two_rows
  pub no_description : ¬ (DescriptionIsLost 1 one_entry)
  -- with no rows as a first part
  pub parts : PartsAreLost 2 [] narrow_cone
  pub no_parts : ¬ (PartsAreLost 1 [] one_entry)
