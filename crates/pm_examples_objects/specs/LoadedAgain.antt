-- What it is to be loaded again, read on a small cone: what was computed comes back stored, and marks stand.
use Rattle.std.specs.Prelude.{None, [], ◌∷◌, codes}
use Rattle.pm_examples_objects.specs.Filing.{excluded_second, small_file, small_object, two_rules}
use Rattle.pm_filing.specs.Whole.{IsLoadedAgain}
use Rattle.pm_geom.specs.declared.evidence.Evidence.TheVariants.{E4}
use Rattle.pm_object.specs.State.{HeldValue, file_value}
use Rattle.pm_object.specs.declared.held.Excluded.{Excluded}
use Rattle.pm_object.specs.declared.held.Origin.TheVariants.{Computed, Given}
use Rattle.pm_object.specs.declared.held.Why.TheVariants as why
use Rattle.pm_object_type.specs.declared.object_type.ObjectType.TheVariants.{Polytope}
use Rattle.pm_props.specs.declared.property.PropId.TheVariants.{ConeAmbientDim, Pointed}
use Rattle.pm_rules.specs.declared.rule.Rule.{Rule}
use Rattle.pm_types.specs.Values.{whole}
use lib.IntN.{pos}

-- the second rule failed for the object itself
abbrev pub failure : Excluded
failure = excluded_second None (why.Failed (E4 [] []))

-- the number of columns alone
abbrev pub dimension : HeldValue
dimension = file_value Given ConeAmbientDim (whole (pos 2))

pub record LoadedIsAgain : Type 0 where
  pub computed : (rule : Rule)
      → IsLoadedAgain (two_rules rule) (small_object Computed []) (small_file (Pointed ∷ []) [])
  pub a_mark : (rule : Rule)
      → IsLoadedAgain (two_rules rule) (small_object Given (failure ∷ [])) (small_file [] ((codes "b", 4) ∷ []))
  -- what was given comes back given, and what was computed does not
  pub still_given : (rule : Rule)
      → ¬ (IsLoadedAgain (two_rules rule) (small_object Given []) (small_file (Pointed ∷ []) []))
  pub not_given : (rule : Rule)
      → ¬ (IsLoadedAgain (two_rules rule) (small_object Computed []) (small_file [] []))
  -- no mark is lost, and none is made
  pub mark_lost : (rule : Rule)
      → ¬ (IsLoadedAgain (two_rules rule) (small_object Given (failure ∷ [])) (small_file [] []))
  pub mark_made : (rule : Rule)
      → ¬ (IsLoadedAgain (two_rules rule) (small_object Given []) (small_file [] ((codes "b", 4) ∷ [])))
  -- nor is a program lost, nor a value made
  pub program_lost : (rule : Rule)
      → ¬ (IsLoadedAgain (two_rules rule) (record (small_object Given []) { programs = codes "a" ∷ [] }) (small_file [] []))
  pub value_made : (rule : Rule)
      → ¬ (IsLoadedAgain (two_rules rule) (record (small_object Given []) { held = dimension ∷ [] }) (small_file [] []))
  pub other_type : (rule : Rule)
      → ¬ (IsLoadedAgain (two_rules rule) (record (small_object Given []) { of = Polytope }) (small_file [] []))
