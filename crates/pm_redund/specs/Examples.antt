-- The definitions of redundant rows read on small rows: what holds, and what does not.
use Rattle.pm_vector.specs.Rows.{Row}
use Rattle.pm_fraction.specs.Fractions.{ratio_of}
use Rattle.pm_geom.specs.declared.evidence.Evidence.TheVariants.{E4, E5Rows}
use Rattle.pm_incidence.specs.ThinExamples.{diagonal, large, larger, x_axis, x_turned, y_axis}
use Rattle.pm_incidence.specs.declared.fails.ThinFail.TheVariants.{Many, Memory, Wide}
use Rattle.pm_object_type.specs.declared.object_type.ObjectType.TheVariants.{Cone, Polytope}
use Rattle.pm_simplex.specs.Generated.{equations_of, lifted, no_objective, tied, turned}
use Rattle.pm_redund.specs.Keeping.{AreNeeded, IsAlone, IsMetAfter, IsMore, products}
use Rattle.pm_redund.specs.Redundancy.{AreKeptPlaces, IsEnough, IsRedundant, IsRowsFail, IsRedundancyFail, IsThinnedTo, LeavesNoPoint}
use Rattle.pm_simplex.specs.Lineality.{MarkLines, line_group}
use Rattle.std.specs.Prelude.{Bool, List, [], false, true, ◌∷◌, ◌≡◌}
use lib.IntN.{ℤ, negsuc, pos}

-- a row of three entries
abbrev pub triple : ℤ → ℤ → ℤ → Row
triple a b c = a ∷ b ∷ c ∷ []

-- (1, 0), (1, 1) and (0, 1)
abbrev pub fan_of_three : List Row
fan_of_three = x_axis ∷ diagonal ∷ y_axis ∷ []

-- marks of three rows
abbrev pub bits : Bool → Bool → Bool → List Bool
bits a b c = a ∷ b ∷ c ∷ []

pub record ProgramsAreRead : Type 0 where
  -- a row is 0 for the constant; the one that is asked about is -1 there, and its opposite 1, on the other side
  pub rows : lifted (diagonal ∷ []) ≡ triple (pos 0) (pos 1) (pos 1) ∷ []
  pub itself : turned false x_axis ≡ x_axis
  pub tied_itself : tied false diagonal ≡ triple (pos 1) (pos 1) (pos 1)
  pub tied_opposed : tied true diagonal ≡ triple (negsuc 0) (pos 1) (pos 1)
  -- the equations of the lines come first
  pub equations : equations_of (y_axis ∷ []) false x_axis
      ≡ triple (pos 0) (pos 0) (pos 1) ∷ triple (pos 1) (pos 1) (pos 0) ∷ []
  pub objective : no_objective 2 ≡ ratio_of (pos 0) (pos 1) ∷ ratio_of (pos 0) (pos 1) ∷ []

pub record RedundancyIsRead : Type 0 where
  -- of (1, 0), (-1, 0) and (0, 1) the first two lie in the lineality, and not the third
  pub marked : MarkLines (x_axis ∷ x_turned ∷ y_axis ∷ []) [] (bits true true false)
  pub too_many : ¬ (MarkLines (x_axis ∷ x_turned ∷ y_axis ∷ []) [] (bits true true true))
  -- the lines stand before the rows that are marked
  pub group : line_group (x_axis ∷ y_axis ∷ []) (diagonal ∷ []) (false ∷ true ∷ []) ≡ diagonal ∷ y_axis ∷ []
  -- (1, 0) and (0, 1) are enough for (1, 1), and one of them is not
  pub enough : IsEnough fan_of_three [] (bits true false true)
  pub few : ¬ (IsEnough fan_of_three [] (bits true false false))
  -- of the three (1, 1) is redundant, and (1, 0) is not
  pub redundant : IsRedundant fan_of_three [] (bits true true true) 1
  pub needed : ¬ (IsRedundant fan_of_three [] (bits true true true) 0)
  -- so it may not stay
  pub thinned : IsThinnedTo fan_of_three [] (bits false false false) 3 (bits true false true)
  pub not_thinned : ¬ (IsThinnedTo fan_of_three [] (bits false false false) 3 (bits true true true))
  -- nor may the second of two equal rows
  pub twice : ¬ (IsThinnedTo (x_axis ∷ x_axis ∷ []) [] (false ∷ false ∷ []) 2 (true ∷ true ∷ []))
  -- the places are those of the rows that stay
  pub places : AreKeptPlaces fan_of_three (bits false false false) (bits true false true) (0 ∷ 2 ∷ [])
  pub left_out : ¬ (AreKeptPlaces fan_of_three (bits false false false) (bits true false true) (0 ∷ []))

pub record RefusalsAreRead : Type 0 where
  -- -1 >= 0 leaves a polytope no point; no inequality leaves it one, and a cone is asked for none
  pub no_point : LeavesNoPoint Polytope 1 ((negsuc 0 ∷ []) ∷ []) []
  pub point : ¬ (LeavesNoPoint Polytope 1 [] [])
  pub cone : ¬ (LeavesNoPoint Cone 1 ((negsuc 0 ∷ []) ∷ []) [])
  -- want of memory needs no evidence; a product of two rows is none, and no places are too many
  pub memory : IsRedundancyFail 2 [] [] Memory
  pub product : ¬ (IsRedundancyFail 2 (large ∷ []) [] (Wide (E4 large larger)))
  pub many : ¬ (IsRedundancyFail 2 (large ∷ []) [] (Many (E5Rows [])))
  pub few_rows : ¬ (IsRowsFail Cone 2 (large ∷ []) [] (Many (E5Rows (0 ∷ []))))

pub record KeepingIsRead : Type 0 where
  -- the second marks have those of the first and one more, and not the other way round
  pub more : IsMore (bits true false false) (bits true false true)
  pub not_more : ¬ (IsMore (bits true false true) (bits true false false))
  -- (1, 0) and (0, 1) are needed, and (1, 1) is not
  pub needed : AreNeeded fan_of_three [] (bits true false true)
  pub not_needed : ¬ (AreNeeded fan_of_three [] (bits false true false))
  -- (-1, 1) has these products
  pub levels : products (negsuc 0 ∷ pos 1 ∷ []) fan_of_three ≡ triple (negsuc 0) (pos 0) (pos 1)
  -- so on the way from (1, 1) it is (1, 0) that comes below 0 alone
  pub alone : IsAlone (triple (negsuc 0) (pos 0) (pos 1)) (triple (pos 1) (pos 2) (pos 1)) 0
  -- a row where both are 0 never does
  pub never : IsMetAfter (negsuc 0 ∷ pos 0 ∷ []) (pos 1 ∷ pos 0 ∷ []) 0 1
  -- and none is alone where two come below 0 at once, or where the height is 0
  pub tied : ¬ (IsAlone (negsuc 0 ∷ negsuc 0 ∷ []) (pos 1 ∷ pos 1 ∷ []) 0)
  pub low : ¬ (IsAlone (negsuc 0 ∷ []) (pos 0 ∷ []) 0)
