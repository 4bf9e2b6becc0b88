-- Objects and files read on small ones: what each has of the other, and what not.
use Rattle.std.specs.Prelude.{ℕ, ◌≡◌, true, false, Option, Some, None, List, [], ◌∷◌, codes}
use Rattle.pm_vector.specs.Numbers.{Ratio}
use Rattle.pm_files.specs.Files.{Mark, SavedFile, SavedProgram}
use Rattle.pm_filing.specs.Filing.{loaded_object, mark_written, marks_of_programs, objectives_held, rule_labelled, saved_file}
use Rattle.pm_geom.specs.declared.evidence.Evidence.TheVariants.{E4}
use Rattle.pm_object.specs.State.{HeldValue, State, empty_object, file_value, given_at, is_sealed}
use Rattle.pm_object.specs.declared.held.Excluded.{Excluded}
use Rattle.pm_object.specs.declared.held.Origin.{Origin}
use Rattle.pm_object.specs.declared.held.Origin.TheVariants.{Given, Stored, Computed}
use Rattle.pm_object.specs.declared.held.Why.{Why}
use Rattle.pm_object.specs.declared.held.Why.TheVariants as why
use Rattle.pm_props.specs.Sets.{set_of}
use Rattle.pm_props.specs.declared.kind.RuleId.{RuleId}
use Rattle.pm_object_type.specs.declared.object_type.ObjectType.TheVariants.{Cone, Polytope}
use Rattle.pm_props.specs.declared.property.PropId.{PropId}
use Rattle.pm_props.specs.declared.property.PropId.TheVariants.{ConeAmbientDim, FullDim, LinearObjective, MaximalFace, Pointed}
use Rattle.pm_rules.specs.declared.rule.Rule.{Rule}
use Rattle.pm_types.specs.Values.{counts, matrix, truth, whole}
use Rattle.pm_types.specs.Views.{over_one}
use lib.IntN.{pos}

-- the rule under another label
abbrev pub under_label : Rule → List ℕ → Rule
under_label rule label = record rule { label = label }

-- a book of two rules, a and b
abbrev pub two_rules : Rule → List Rule
two_rules rule = under_label rule (codes "a") ∷ under_label rule (codes "b") ∷ []

abbrev pub second : RuleId
second = record { 0 = 1 }

-- a cone of two columns of which POINTED is known, with this mark
abbrev pub small_file : List PropId → List Mark → SavedFile
small_file stored failed = record {
  of = Cone;
  values = (ConeAmbientDim, whole (pos 2)) ∷ (Pointed, truth true) ∷ [];
  stored = set_of stored;
  failed = failed;
  programs = [];
  ignored = [];
}

-- the same as an object
abbrev pub small_object : Origin → List Excluded → State
small_object origin excluded = record (empty_object Cone) {
  held = file_value Given ConeAmbientDim (whole (pos 2)) ∷ file_value origin Pointed (truth true) ∷ [];
  excluded = excluded;
}

-- the second rule was excluded, for who asks this program, if one is asked
abbrev pub excluded_second : Option ℕ → Why → Excluded
excluded_second sub why = record { rule = second; sub = sub; why = why }

-- the objective x1 of a polytope of two columns
abbrev pub row : List (List Ratio)
row = (over_one (pos 0) ∷ over_one (pos 1) ∷ []) ∷ []

abbrev pub program : Option (List ℕ) → Option (List (List Ratio)) → List Mark → SavedProgram
program name objective failed = record { name = name; objective = objective; failed = failed }

-- a polytope of two columns with these programs
abbrev pub small_polytope : List SavedProgram → SavedFile
small_polytope programs = record {
  of = Polytope;
  values = (ConeAmbientDim, whole (pos 2)) ∷ [];
  stored = set_of [];
  failed = [];
  programs = programs;
  ignored = [];
}

-- the programs a, with an objective and a mark, and c, without
abbrev pub two_programs : List SavedProgram
two_programs = program (Some (codes "a")) (Some row) ((codes "b", 4) ∷ [])
    ∷ program (Some (codes "c")) None [] ∷ []

-- the same as an object, that holds these values too
abbrev pub polytope_with : List HeldValue → State
polytope_with more = record (empty_object Polytope) {
  held = file_value Given ConeAmbientDim (whole (pos 2)) ∷ given_at (Some 0) LinearObjective (matrix 2 row)
      ∷ more;
  excluded = excluded_second (Some 0) (why.Stored 4) ∷ [];
  programs = codes "a" ∷ codes "c" ∷ [];
}

-- a value that was computed of its first program
abbrev pub greatest : HeldValue
greatest = record { place = Some 0; property = MaximalFace; value = counts []; origin = Computed }

pub record FilesAreLoaded : Type 0 where
  pub given : (book : List Rule) → loaded_object book (small_file [] []) ≡ small_object Given []
  pub stored : (book : List Rule) → loaded_object book (small_file (Pointed ∷ []) [])
      ≡ small_object Stored []
  pub then_sealed : (book : List Rule) → is_sealed (loaded_object book (small_file (Pointed ∷ []) [])) ≡ true
  pub else_open : (book : List Rule) → is_sealed (loaded_object book (small_file [] [])) ≡ false
  pub second_label : (rule : Rule) → rule_labelled (two_rules rule) (codes "b") ≡ Some second
  pub no_label : (rule : Rule) → rule_labelled (two_rules rule) (codes "c") ≡ None
  pub is_marked : (rule : Rule) → loaded_object (two_rules rule) (small_file [] ((codes "b", 4) ∷ []))
      ≡ small_object Given (excluded_second None (why.Stored 4) ∷ [])
  -- objectives and marks stand at the places of their programs
  pub programs : (rule : Rule) → loaded_object (two_rules rule) (small_polytope two_programs)
      ≡ polytope_with []
  pub second_place : objectives_held 0 (program (Some (codes "a")) None []
      ∷ program (Some (codes "c")) (Some row) [] ∷ [])
      ≡ given_at (Some 1) LinearObjective (matrix 2 row) ∷ []
  pub second_mark : (rule : Rule)
      → marks_of_programs (two_rules rule) 0 (program (Some (codes "a")) None []
      ∷ program (Some (codes "c")) None ((codes "b", 2) ∷ []) ∷ [])
      ≡ excluded_second (Some 1) (why.Stored 2) ∷ []
  pub is_read_over : (rule : Rule) → loaded_object (two_rules rule) (small_file [] ((codes "c", 4) ∷ []))
      ≡ small_object Given []

pub record ObjectsAreSaved : Type 0 where
  pub given : (book : List Rule) → saved_file book (small_object Given []) ≡ small_file [] []
  pub stored : (book : List Rule) → saved_file book (small_object Stored []) ≡ small_file (Pointed ∷ []) []
  pub computed : (book : List Rule) → saved_file book (small_object Computed [])
      ≡ small_file (Pointed ∷ []) []
  pub failed : (rule : Rule)
      → mark_written (two_rules rule) None (excluded_second None (why.Failed (E4 [] [])))
      ≡ (codes "b", 4) ∷ []
  pub marked_again : (rule : Rule) → mark_written (two_rules rule) None (excluded_second None (why.Stored 2))
      ≡ (codes "b", 2) ∷ []
  pub not_false : (rule : Rule)
      → mark_written (two_rules rule) None (excluded_second None (why.False FullDim)) ≡ []
  pub not_of_a_program : (rule : Rule)
      → mark_written (two_rules rule) None (excluded_second (Some 0) (why.Stored 2)) ≡ []
  pub of_its_program : (rule : Rule)
      → mark_written (two_rules rule) (Some 0) (excluded_second (Some 0) (why.Stored 2))
      ≡ (codes "b", 2) ∷ []
  pub not_of_another : (rule : Rule)
      → mark_written (two_rules rule) (Some 1) (excluded_second (Some 0) (why.Stored 2)) ≡ []
  pub programs : (rule : Rule) → saved_file (two_rules rule) (polytope_with []) ≡ small_polytope two_programs
  -- what was computed of a program is not written
  pub no_value_of_a_program : (rule : Rule)
      → saved_file (two_rules rule) (polytope_with (greatest ∷ [])) ≡ small_polytope two_programs
