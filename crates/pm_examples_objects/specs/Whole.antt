-- Whole files, marks and loaded values read on small ones: what holds of them, and what does not.
use Rattle.std.specs.Prelude.{◌≡◌, ℕ, true, false, None, Some, List, [], ◌∷◌, codes}
use Rattle.pm_vector.specs.Numbers.{Ratio}
use Rattle.pm_files.specs.Files.{Mark, SavedFile, SavedProgram}
use Rattle.pm_examples_objects.specs.Filing.{excluded_second, greatest, polytope_with, program, row, small_file, small_object, small_polytope, two_programs, two_rules}
use Rattle.pm_filing.specs.Filing.{each_label_once}
use Rattle.pm_filing.specs.Whole.{IsFailure, IsSameFile, IsWhole, held_again, is_kept, is_place}
use Rattle.pm_geom.specs.declared.evidence.Evidence.TheVariants.{E4}
use Rattle.pm_object.specs.Formed.{are_once, is_numbered}
use Rattle.pm_object.specs.State.{file_value, given_at}
use Rattle.pm_object.specs.declared.held.Origin.TheVariants.{Computed, Given, Stored}
use Rattle.pm_object.specs.declared.held.Why.TheVariants as why
use Rattle.pm_props.specs.declared.property.PropId.{PropId}
use Rattle.pm_props.specs.declared.property.PropId.TheVariants.{Bounded, ConeAmbientDim, FullDim, LinearObjective, Pointed}
use Rattle.pm_rules.specs.declared.rule.Rule.{Rule}
use Rattle.pm_types.specs.Values.{PropertyValue, matrix, truth, whole}
use Rattle.pm_types.specs.Views.{over_one}
use lib.IntN.{pos}

abbrev mark : List ℕ → ℕ → Mark
mark label k = (label, k)

-- the small file with these values
abbrev pub with_values_of : List (PropId × PropertyValue) → SavedFile
with_values_of values = record (small_file [] []) { values = values }

-- the programs a, with a mark, and c
abbrev pub two_names : List SavedProgram
two_names = program (Some (codes "a")) None (mark (codes "b") 4 ∷ []) ∷ program (Some (codes "c")) None []
    ∷ []

-- an objective of three columns
abbrev pub three : List (List Ratio)
three = (over_one (pos 0) ∷ over_one (pos 1) ∷ over_one (pos 1) ∷ []) ∷ []

pub record FilesAreWhole : Type 0 where
  pub small : IsWhole (small_file [] (mark (codes "b") 4 ∷ mark (codes "a") 1 ∷ []))
  -- POINTED of a cone of two columns, once
  pub not_twice : ¬ (IsWhole (with_values_of ((Pointed, truth true) ∷ (Pointed, truth true) ∷ [])))
  -- cones are not bounded
  pub no_cone : ¬ (IsWhole (with_values_of ((Bounded, truth true) ∷ [])))
  pub no_form : ¬ (IsWhole (with_values_of ((ConeAmbientDim, whole (pos 34)) ∷ [])))
  pub not_held : ¬ (IsWhole (small_file (FullDim ∷ []) []))
  pub no_label : ¬ (IsWhole (small_file [] (mark (codes "a.b") 1 ∷ [])))
  pub no_evidence : ¬ (IsWhole (small_file [] (mark (codes "a") 6 ∷ [])))
  pub label_twice : ¬ (IsWhole (small_file [] (mark (codes "a") 1 ∷ mark (codes "a") 2 ∷ [])))
  -- a polytope may have programs, of different names, and marks and objectives that are such
  pub programs : IsWhole (small_polytope two_names)
  pub no_cone_program
      : ¬ (IsWhole (record (small_file [] []) { programs = program (Some (codes "a")) None [] ∷ [] }))
  pub name_twice
      : ¬ (IsWhole
      (small_polytope (program (Some (codes "a")) None [] ∷ program (Some (codes "a")) (Some row) [] ∷ [])))
  pub nameless : ¬ (IsWhole (small_polytope (program None (Some row) [] ∷ [])))
  pub no_program_mark
      : ¬ (IsWhole (small_polytope (program (Some (codes "a")) None (mark (codes "a") 6 ∷ []) ∷ [])))
  pub no_row : ¬ (IsWhole (small_polytope (program (Some (codes "a")) (Some []) [] ∷ [])))
  pub other_columns : ¬ (IsWhole (small_polytope (program (Some (codes "a")) (Some three) [] ∷ [])))
  -- no value is lost, and none is another
  pub loses_none : ¬ (IsSameFile (small_file [] []) (with_values_of []))
  pub gains_none : ¬ (IsSameFile (with_values_of []) (small_file [] []))
  pub still_stored : ¬ (IsSameFile (small_file (Pointed ∷ []) []) (small_file [] []))
  pub same_programs : ¬ (IsSameFile (small_polytope two_programs) (small_polytope []))

pub record ObjectsAreAgain : Type 0 where
  pub given : held_again (file_value Given Pointed (truth true)) ≡ file_value Given Pointed (truth true)
  pub stored : held_again (file_value Stored Pointed (truth true)) ≡ file_value Stored Pointed (truth true)
  pub computed : held_again (file_value Computed Pointed (truth true))
      ≡ file_value Stored Pointed (truth true)
  pub objective : held_again (given_at (Some 0) LinearObjective (matrix 2 row))
      ≡ given_at (Some 0) LinearObjective (matrix 2 row)
  -- a file has the object's own values, and objectives
  pub own : is_kept (file_value Computed Pointed (truth true)) ≡ true
  pub of_program : is_kept (given_at (Some 1) LinearObjective (matrix 2 row)) ≡ true
  pub not_kept : is_kept greatest ≡ false
  -- of each label the first mark
  pub first_marks : each_label_once (mark (codes "a") 1 ∷ mark (codes "b") 2 ∷ mark (codes "a") 3 ∷ [])
      ≡ mark (codes "a") 1 ∷ mark (codes "b") 2 ∷ []
  -- failures for the object itself or one of its programs, of rules of the book
  pub failed : (rule : Rule)
      → IsFailure (two_rules rule) (small_object Given (excluded_second None (why.Failed (E4 [] [])) ∷ []))
      (excluded_second None (why.Failed (E4 [] []))) 4
  pub for_a_program : (rule : Rule)
      → IsFailure (two_rules rule) (polytope_with []) (excluded_second (Some 0) (why.Stored 4)) 4
  pub no_program : (rule : Rule) (k : ℕ)
      → ¬ (IsFailure (two_rules rule) (small_object Given (excluded_second (Some 0) (why.Stored 2) ∷ []))
      (excluded_second (Some 0) (why.Stored 2)) k)
  pub last_place : is_place 2 (Some 1) ≡ true
  pub no_place : is_place 2 (Some 2) ≡ false
  pub not_false : (rule : Rule) (k : ℕ)
      → ¬ (IsFailure (two_rules rule) (small_object Given (excluded_second None (why.False FullDim) ∷ []))
      (excluded_second None (why.False FullDim)) k)
  pub no_rule : (k : ℕ)
      → ¬ (IsFailure [] (small_object Given (excluded_second None (why.Stored 2) ∷ []))
      (excluded_second None (why.Stored 2)) k)
  -- of one property at one place
  pub once : are_once (file_value Given ConeAmbientDim (whole (pos 2))
      ∷ file_value Given Pointed (truth true) ∷ []) ≡ true
  pub twice : are_once (file_value Given Pointed (truth true) ∷ file_value Given Pointed (truth false) ∷ [])
      ≡ false
  pub elsewhere : are_once (file_value Given Pointed (truth true)
      ∷ record (file_value Given Pointed (truth true)) { place = Some 0 } ∷ []) ≡ true
  pub numbered : is_numbered (why.Stored 5) ≡ true
  pub no_number : is_numbered (why.Stored 6) ≡ false
  pub no_nought : is_numbered (why.Stored 0) ≡ false
