-- Which data files are saved as the same bytes again after they were loaded.
use Rattle.std.specs.Prelude.{ℕ, ◌≡◌, Bool, IsTrue, List, [], Ok}
use Rattle.std.specs.List.{All, list_all}
use Rattle.std.specs.Option.{is_some}
use Rattle.pm_files.specs.Files.{Mark, SavedFile, file_bytes, file_json}
use Rattle.pm_filing.specs.FileParts.{data_in}
use Rattle.pm_filing.specs.FileReadings.{Reads}
use Rattle.pm_filing.specs.Filing.{loaded_object, rule_labelled, saved_file, unsettled_object}
use Rattle.pm_filing.specs.Whole.{IsWhole}
use Rattle.pm_object.specs.State.{settling}
use Rattle.pm_rules.specs.declared.rule.Rule.{Rule}

-- the book has a rule of each mark's label
abbrev pub has_labels : List Rule → List Mark → Bool
has_labels book ms = list_all (λ m. is_some (rule_labelled book m.0)) ms

-- the book has the labels of the file's marks, and of those of its programs
pub record HasLabels (book : List Rule) (f : SavedFile) : Type 0 where
  pub own : IsTrue (has_labels book f.failed)
  pub programs : All (λ p. IsTrue (has_labels book p.failed)) f.programs

-- settling adds nothing to what the file holds: nothing goes without saying of it
abbrev pub IsSettled : List Rule → SavedFile → Type 0
IsSettled book f = settling (unsettled_object book f) ≡ []

-- Bytes that are the JSON of a whole file f, as those of every saved object are, are read as a file g: where settling
-- adds nothing to it and the book has all labels, the object that is made of it is saved as the bytes of f again.
abbrev pub SavedAgain : Type 0
SavedAgain = (book : List Rule) (bytes : List ℕ) (f : SavedFile) → IsWhole f
    → data_in bytes ≡ Ok (file_json f)
    → (g : SavedFile) → Reads bytes g → IsSettled book g → HasLabels book g
    → file_bytes (saved_file book (loaded_object book g)) ≡ file_bytes f
