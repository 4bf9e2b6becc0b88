-- The profile of a data file: which values were stored, which rules failed, and the names of its linear programs; and
-- the file as a whole.
use Rattle.std.specs.Prelude.{ℕ, suc, Bool, true, false, not, ◌&&◌, ◌==◌, List, [], ◌∷◌, ◌++◌, map, codes, decimal, Option, Some, None, option_and_then, option_map, unwrap_or, Ok, Err, if◌then◌else◌}
use Rattle.std.specs.List.{list_any}
use Rattle.std.specs.Str.{bytes_eq}
use Rattle.pm_json.specs.Readings.{Read}
use Rattle.pm_props.specs.NameWords.{is_name}
use Rattle.pm_props.specs.Names.{property_named_in}
use Rattle.pm_props.specs.Places.{same_property}
use Rattle.pm_props.specs.Sets.{has, set_of}
use Rattle.pm_object_type.specs.declared.object_type.ObjectType.{ObjectType}
use Rattle.pm_props.specs.declared.property.PropId.{PropId}
use Rattle.pm_rules.specs.Words.{is_label}
use Rattle.pm_types.specs.Forms.{rows_in}
use Rattle.pm_types.specs.Values.{PropertyValue}
use Rattle.serde_json.specs.Data.{Data, Num, unsigned, Members, no_members, Items, item, no_items}
use Rattle.serde_json.specs.Find.{as_array, as_number, as_object, as_str, get}
use Rattle.pm_files.specs.Files.{Mark, SavedFile, SavedProgram}
use Rattle.pm_filing.specs.FileParts.{FileRead, Part, value, programs, bad_profile, ignored_in, is_programs_key, or_else_fault, programs_of, then_read}

-- ---- the profile
abbrev pub is_two : Option Num → Bool
is_two (Some (unsigned n)) = n == 2
is_two n = false

-- the profile is 2 where `_profile` is this whole number
abbrev pub is_profile_2 : Data → Bool
is_profile_2 d = is_two (option_and_then as_number (get (codes "_profile") d))

-- ---- lists
-- what the items are, where each is read
abbrev pub each_read : {A : Type 0} → (Data → Option A) → Items → Option (List A)
each_read read no_items = Some []
each_read read (item d ds) = option_and_then (λ a. option_map (λ as'. a ∷ as') (each_read read ds)) (read d)

-- no two are the same
abbrev pub are_different : {A : Type 0} → (A → A → Bool) → List A → Bool
are_different same [] = true
are_different same (a ∷ as') = not (list_any (same a) as') && are_different same as'

abbrev pub if_different : {A : Type 0} → (A → A → Bool) → List A → Option (List A)
if_different same as' = if are_different same as' then Some as' else None

-- what the items are, where each is read and no two are the same
abbrev pub different_read : {A : Type 0} → (A → A → Bool) → (Data → Option A) → Items → Option (List A)
different_read same read ds = option_and_then (if_different same) (each_read read ds)

-- so of the items of an array; what is missing is empty
abbrev pub list_read : {A : Type 0} → (A → A → Bool) → (Data → Option A) → Option Data → Option (List A)
list_read same read None = Some []
list_read same read (Some d) = option_and_then (different_read same read) (as_array d)

-- ---- stored values
-- the property, where its value was read
abbrev pub if_held : ℕ → PropId → Option PropId
if_held held p = if has held p then Some p else None

-- the property of a name, where its value was read
abbrev pub stored_property : ObjectType → ℕ → Data → Option PropId
stored_property of held d =
    option_and_then (if_held held) (option_and_then (property_named_in of) (as_str d))

-- the properties that are named, each once
abbrev pub stored_by : ObjectType → ℕ → Option Data → Option ℕ
stored_by of held found = option_map set_of (list_read same_property (stored_property of held) found)

-- ---- rules that failed
-- the number of the evidence, from 1 to 5
abbrev pub evidence_of : List ℕ → Option ℕ
evidence_of text =
    if bytes_eq text (codes "E1") then Some 1
    else if bytes_eq text (codes "E2") then Some 2
    else if bytes_eq text (codes "E3") then Some 3
    else if bytes_eq text (codes "E4") then Some 4
    else if bytes_eq text (codes "E5") then Some 5
    else None

abbrev pub mark_with : List ℕ → Option ℕ → Option Mark
mark_with label None = None
mark_with label (Some k) = if is_label label then Some (label, k) else None

-- LABEL is a label of a rule book
abbrev pub mark_by : Option (List ℕ) → Option (List ℕ) → Option Mark
mark_by (Some label) (Some text) = mark_with label (evidence_of text)
mark_by label text = None

abbrev pub mark_among : Items → Option Mark
mark_among (item label (item text no_items)) = mark_by (as_str label) (as_str text)
mark_among ds = None

-- [LABEL,"Ek"]
abbrev pub mark_of : Data → Option Mark
mark_of d = option_and_then mark_among (as_array d)

abbrev pub same_label : Mark → Mark → Bool
same_label m n = bytes_eq m.0 n.0

-- the marks of an object or a program, each of another label
abbrev pub marks_in : Data → Option (List Mark)
marks_in d = list_read same_label mark_of (get (codes "_excluded") d)

-- ---- names of programs
abbrev pub if_name : List ℕ → Option (List ℕ)
if_name name = if is_name name then Some name else None

abbrev pub program_name_of : Data → Option (List ℕ)
program_name_of d = option_and_then if_name (option_and_then as_str (get (codes "_name") d))

-- the names of the programs, no two the same
abbrev pub program_names : Items → Option (List (List ℕ))
program_names ds = different_read bytes_eq program_name_of ds

-- lp0, lp1 and so on
abbrev pub plain_names_from : ℕ → Items → List (List ℕ)
plain_names_from k no_items = []
plain_names_from k (item d ds) = (codes "lp" ++ decimal k) ∷ plain_names_from (suc k) ds

abbrev pub no_marks : Items → List (List Mark)
no_marks no_items = []
no_marks (item d ds) = [] ∷ no_marks ds

-- ---- the file
-- the stored properties, the marks, and each program's name and marks
pub record Profile : Type 0 where
  pub stored : ℕ
  pub failed : List Mark
  pub names : List (List ℕ)
  pub marks : List (List Mark)

-- all values are given, and no rule failed
abbrev pub plain_profile : Items → Profile
plain_profile ds = record { stored = 0; failed = []; names = plain_names_from 0 ds; marks = no_marks ds }

abbrev pub or_bad : {A : Type 0} → List ℕ → Option A → FileRead A
or_bad key a = or_else_fault (bad_profile key) a

-- the profile of the top, which holds these properties and has these programs
abbrev pub full_profile : ObjectType → ℕ → Data → Items → FileRead Profile
full_profile of held d ds =
    then_read (or_bad (codes "_computed") (stored_by of held (get (codes "_computed") d))) (λ stored.
    then_read (or_bad (codes "_excluded") (marks_in d)) (λ failed.
    then_read (or_bad (codes "_excluded") (each_read marks_in ds)) (λ marks.
    then_read (or_bad (codes "_name") (program_names ds)) (λ names.
    Ok (record { stored = stored; failed = failed; names = names; marks = marks })))))

abbrev pub profile_in : ObjectType → ℕ → Data → Items → FileRead Profile
profile_in of held d ds = if is_profile_2 d then full_profile of held d ds else Ok (plain_profile ds)

-- ---- parts
abbrev pub values_in : List Part → List (PropId × PropertyValue)
values_in [] = []
values_in (value p v ∷ parts) = (p, v) ∷ values_in parts
values_in (programs vs ∷ parts) = values_in parts

abbrev pub objectives_in : List Part → List (Option PropertyValue)
objectives_in [] = []
objectives_in (value p v ∷ parts) = objectives_in parts
objectives_in (programs vs ∷ parts) = vs ++ objectives_in parts

abbrev pub names_held : List Part → ℕ
names_held parts = set_of (map (λ x. x.0) (values_in parts))

-- ---- the programs of a file
abbrev pub items_read : Read Items → Items
items_read (Ok ds) = ds
items_read (Err why) = no_items

abbrev pub programs_by : Option Data → Items
programs_by None = no_items
programs_by (Some d) = items_read (programs_of d)

-- the linear programs of the top, where the type has such
abbrev pub programs_in : ObjectType → Data → Items
programs_in of d = if is_programs_key of (codes "LP") then programs_by (get (codes "LP") d) else no_items

-- each program with its objective, its name and its marks
abbrev pub programs_with : List (Option PropertyValue) → List (List ℕ) → List (List Mark) → List SavedProgram
programs_with (v ∷ vs) (name ∷ names) (ms ∷ marks) =
    record { name = Some name; objective = option_map rows_in v; failed = ms } ∷ programs_with vs names marks
programs_with vs names marks = []

-- the members of the top
abbrev pub members_of : Data → Members
members_of d = unwrap_or (as_object d) no_members

abbrev pub file_with : ObjectType → Data → List Part → Profile → SavedFile
file_with of d parts profile = record {
  of = of;
  values = values_in parts;
  stored = profile.stored;
  failed = profile.failed;
  programs = programs_with (objectives_in parts) profile.names profile.marks;
  ignored = ignored_in of (members_of d) (programs_in of d);
}

-- the file of the top with these parts, or what is wrong with its profile
abbrev pub file_in : ObjectType → Data → List Part → FileRead SavedFile
file_in of d parts = then_read (profile_in of (names_held parts) d (programs_in of d)) (λ profile.
    Ok (file_with of d parts profile))
