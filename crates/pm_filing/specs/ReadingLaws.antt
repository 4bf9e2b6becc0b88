-- What holds of the reading of data files.
use Rattle.std.specs.Prelude.{ℕ, List, ◌≡◌}
use Rattle.pm_filing.specs.FileParts.{FileFault}
use Rattle.pm_files.specs.Files.{SavedFile}
use Rattle.pm_filing.specs.FileReadings.{Reads, Refuses}

-- bytes are read as one file at most, are refused for one fault at most, and are not both read and refused
pub record ReadingsAreUnique : Type 0 where
  pub one_file : (bytes : List ℕ) (f g : SavedFile) → Reads bytes f → Reads bytes g → f ≡ g
  pub one_fault : (bytes : List ℕ) (e f : FileFault) → Refuses bytes e → Refuses bytes f → e ≡ f
  pub not_both : (bytes : List ℕ) (f : SavedFile) (e : FileFault) → Reads bytes f → ¬ (Refuses bytes e)
