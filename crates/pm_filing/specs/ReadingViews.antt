-- The code's faults and parts of files as such, and the forms of their values.
use Rattle.std.specs.Prelude.{ℕ, Bool, true, ⊤, List, [], ◌∷◌, String, Option, Some, None, map, option_map, string_bytes}
use Rattle.std.specs.List.{list_all}
use Rattle.pm_props.specs.declared.property.PropId.{PropId}
use Rattle.pm_props.specs.declared.property.PropId.TheVariants.{LinearObjective}
use Rattle.pm_fraction.specs.Matrices.{FractionMatrix}
use Rattle.pm_types.specs.Forms.{AreFractions, is_formed}
use Rattle.pm_types.specs.Values.{PropertyValue, matrix}
use Rattle.pm_filing.specs.FileReadings.{Named}
use Rattle.pm_files.specs.declared.file.FileProgram.{FileProgram}
use Rattle.pm_types.specs.Views.{view_of}
use Rattle.pm_types.specs.declared.value.Value.{Value}
use Rattle.std.specs.declared.alloc.Global.{Global}
use Rattle.pm_files.specs.Files.{Mark}
use Rattle.pm_filing.specs.FileParts.{FileFault, Part, too_long, not_json, no_type, unknown_type, bad_property, bad_row, bad_profile, out_of_memory, value, programs}
use Rattle.pm_filing.specs.Profiles.{Profile}
use Rattle.std.specs.Global.{Vec}
use Rattle.pm_filing.specs.declared.profile.FileProfile.{FileProfile}
use Rattle.pm_filing.specs.declared.fail.FileFail.{FileFail}
use Rattle.pm_filing.specs.declared.fail.FileFail.TheVariants as fail
use Rattle.pm_filing.specs.declared.parts.FilePart.{FilePart}
use Rattle.pm_filing.specs.declared.parts.FilePart.TheVariants as part

abbrev pub fault_of : FileFail → FileFault
fault_of fail.Limit = too_long
fault_of fail.NotJson = not_json
fault_of fail.NoType = no_type
fault_of fail.UnknownType = unknown_type
fault_of (fail.BadProperty name why) = bad_property (string_bytes name) why
fault_of (fail.BadRow name) = bad_row (string_bytes name)
fault_of (fail.BadProfile key) = bad_profile (string_bytes key)
fault_of fail.Memory = out_of_memory

abbrev pub objectives_seen : List (Option Value) → List (Option PropertyValue)
objectives_seen vs = map (λ v. option_map view_of v) vs

abbrev pub part_seen : FilePart → Part
part_seen (part.Value p v) = value p (view_of v)
part_seen (part.Programs vs) = programs (objectives_seen vs.items)

-- an objective has the form of one
abbrev pub is_formed_objective : Option PropertyValue → Bool
is_formed_objective None = true
is_formed_objective (Some v) = is_formed LinearObjective v

-- the values have their forms
abbrev pub is_formed_part : Part → Bool
is_formed_part (value p v) = is_formed p v
is_formed_part (programs vs) = list_all is_formed_objective vs

abbrev pub are_formed_parts : List Part → Bool
are_formed_parts parts = list_all is_formed_part parts

abbrev pub marks_seen : List (String Global × ℕ) → List Mark
marks_seen ms = map (λ m. (string_bytes m.0, m.1)) ms

abbrev pub all_marks_seen : List (Vec (String Global × ℕ)) → List (List Mark)
all_marks_seen all = map (λ v. marks_seen v.items) all

abbrev pub profile_seen : FileProfile → Profile
profile_seen p = record {
  stored = p.stored;
  failed = marks_seen p.failed.items;
  names = map string_bytes p.names.items;
  marks = all_marks_seen p.marks.items;
}

-- the fractions of the values are in lowest terms and in the range
abbrev pub HaveFractions : List Named → Type 0
HaveFractions [] = ⊤
HaveFractions (x ∷ xs) = AreFractions x.value × HaveFractions xs

-- the matrix of an objective
abbrev pub matrix_seen : FractionMatrix → PropertyValue
matrix_seen m = matrix m.cols m.rows

abbrev pub has_formed_objective : FileProgram → Bool
has_formed_objective p = is_formed_objective (option_map matrix_seen p.objective)

abbrev pub are_formed_values : List (PropId × PropertyValue) → Bool
are_formed_values vs = list_all (λ v. is_formed v.0 v.1) vs
