-- Small files under a book of the rules a and b: which are saved again as they were, and which are not.
use Rattle.std.specs.Prelude.{◌≡◌, ◌≢◌, ℕ, List, [], ◌∷◌, codes}
use Rattle.pm_files.specs.Files.{SavedFile, file_bytes}
use Rattle.pm_examples_objects.specs.Filing.{program, small_file, small_polytope, two_rules}
use Rattle.pm_filing.specs.Filing.{loaded_object, saved_file}
use Rattle.pm_laws_texts.specs.SavedAgain.{HasLabels, IsSettled}
use Rattle.pm_props.specs.declared.property.PropId.TheVariants.{Pointed}
use Rattle.pm_rules.specs.declared.rule.Rule.{Rule}
use Rattle.std.specs.Prelude.{None, Some}

-- a cone of two columns of which POINTED was computed, for which the rule of this label failed
abbrev pub failed_by : List ℕ → SavedFile
failed_by label = small_file (Pointed ∷ []) ((label, 4) ∷ [])

-- a cone without values
abbrev pub no_values : SavedFile
no_values = record (small_file [] []) { values = [] }

-- the bytes that are saved of what is loaded
abbrev pub bytes_again : Rule → SavedFile → List ℕ
bytes_again rule f = file_bytes (saved_file (two_rules rule) (loaded_object (two_rules rule) f))

pub record LabelsAreRead : Type 0 where
  -- the book has the label b
  pub label : (rule : Rule) → HasLabels (two_rules rule) (failed_by (codes "b"))
  pub same : (rule : Rule) → bytes_again rule (failed_by (codes "b")) ≡ file_bytes (failed_by (codes "b"))
  -- it has no label c: that mark is read over, and is not saved again
  pub no_label : (rule : Rule) → ¬ (HasLabels (two_rules rule) (failed_by (codes "c")))
  pub not_same : (rule : Rule)
      → bytes_again rule (failed_by (codes "c")) ≢ file_bytes (failed_by (codes "c"))
  -- nor may a program have it
  pub no_program_label : (rule : Rule)
      → ¬ (HasLabels (two_rules rule)
      (small_polytope (program (Some (codes "x")) None ((codes "c", 4) ∷ []) ∷ [])))
  -- the column count of a cone goes without saying: it is filled in, and saved
  pub settled : (rule : Rule) → IsSettled (two_rules rule) (failed_by (codes "c"))
  pub not_settled : (rule : Rule) → ¬ (IsSettled (two_rules rule) no_values)
  pub filled_in : (rule : Rule) → bytes_again rule no_values ≢ file_bytes no_values
