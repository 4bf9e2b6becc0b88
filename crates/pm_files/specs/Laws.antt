-- What holds of the JSON of values and of files.
use Rattle.std.specs.Prelude.{IsTrue, List, Some, codes, false, ◌++◌, ◌∷◌, ◌≡◌, ◌≤◌}
use Rattle.std.specs.List.{list_all}
use Rattle.pm_props.specs.Properties.{name_in}
use Rattle.pm_props.specs.declared.property.PropId.{PropId}
use Rattle.pm_types.specs.Values.{PropertyValue}
use Rattle.serde_json.specs.Data.{depth, string}
use Rattle.serde_json.specs.Find.{get}
use Rattle.serde_json.specs.Written.{has_float}
use Rattle.pm_files.specs.Files.{SavedFile, file_json, is_other_name, type_text}
use Rattle.pm_files.specs.ValueJson.{json_of}

-- the JSON of a value nests three levels at most, as that of a lattice does
abbrev pub ValuesAreShallow : Type 0
ValuesAreShallow = (p : PropId) (v : PropertyValue) → depth (json_of p v) ≤ 3

-- it has no float
abbrev pub ValuesHaveNoFloat : Type 0
ValuesHaveNoFloat = (p : PropId) (v : PropertyValue) → has_float (json_of p v) ≡ false

-- a file nests six levels at most, as one does whose program has a mark
abbrev pub FilesAreShallow : Type 0
FilesAreShallow = (f : SavedFile) → depth (file_json f) ≤ 6

-- it has no float
abbrev pub FilesHaveNoFloat : Type 0
FilesHaveNoFloat = (f : SavedFile) → has_float (file_json f) ≡ false

-- a value stands in its file under its name, where no later value has that name
abbrev pub FilesHoldTheirValues : Type 0
FilesHoldTheirValues = (f : SavedFile) (before after : List (PropId × PropertyValue)) (p : PropId)
    (v : PropertyValue) → f.values ≡ before ++ (p, v) ∷ after
    → IsTrue (list_all (λ w. is_other_name f.of (name_in f.of p) w.0) after)
    → get (name_in f.of p) (file_json f) ≡ Some (json_of p v)

-- so does the text of its type
abbrev pub FilesHoldTheirType : Type 0
FilesHoldTheirType = (f : SavedFile) → get (codes "_type") (file_json f) ≡ Some (string (type_text f.of))
