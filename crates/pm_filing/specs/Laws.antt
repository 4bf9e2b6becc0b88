-- What holds of objects and their files.
use Rattle.std.specs.Prelude.{◌≡◌, ℕ, IsTrue, List, Ok}
use Rattle.pm_files.specs.Files.{SavedFile, file_json}
use Rattle.pm_files.specs.ValueJson.{json_of}
use Rattle.pm_filing.specs.FileParts.{data_in}
use Rattle.pm_filing.specs.FileReadings.{Reads}
use Rattle.pm_filing.specs.Filing.{loaded_object, saved_file}
use Rattle.pm_filing.specs.Whole.{IsSameFile, IsWhole}
use Rattle.pm_json.specs.Readings.{reading}
use Rattle.pm_object.specs.Formed.{IsFormed}
use Rattle.pm_object.specs.Honest.{IsKept}
use Rattle.pm_object.specs.State.{State}
use Rattle.pm_props.specs.declared.property.PropId.{PropId}
use Rattle.pm_rules.specs.Books.{IsBook}
use Rattle.pm_rules.specs.declared.rule.Rule.{Rule}
use Rattle.pm_types.specs.Forms.{AreFractions, is_formed}
use Rattle.pm_types.specs.Values.{PropertyValue}

-- a value in the form of its property, with fractions in lowest terms and in the range, is read back from its JSON
abbrev pub ValuesAreReadBack : Type 0
ValuesAreReadBack = (p : PropId) (v : PropertyValue) → IsTrue (is_formed p v) → AreFractions v
    → reading p (json_of p v) ≡ Ok v

-- whatever a file holds, the object that is made of it is honest
abbrev pub LoadedIsKept : Type 0
LoadedIsKept = (book : List Rule) (f : SavedFile) → IsKept (loaded_object book f)

-- the file of an object is whole
abbrev pub SavedIsWhole : Type 0
SavedIsWhole = (book : List Rule) (o : State) → IsBook book → IsFormed o → IsWhole (saved_file book o)

-- bytes that are the JSON of a whole file are read as that file, with its values in another order
abbrev pub FilesAreReadBack : Type 0
FilesAreReadBack = (bytes : List ℕ) (f : SavedFile) → IsWhole f → data_in bytes ≡ Ok (file_json f)
    → (g : SavedFile) × Reads bytes g × IsSameFile f g
