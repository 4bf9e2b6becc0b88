-- What objects and data files say of each other: the object that is made of a file, and the file that is written of
-- an object.
use Rattle.std.specs.Prelude.{ℕ, Bool, false, true, Option, Some, None, List, [], ◌∷◌, ◌++◌, filter, flat_map, fold, length, map, option_map, option_to_list, suc, ◌&&◌, if◌then◌else◌}
use Rattle.std.specs.List.{list_any}
use Rattle.std.specs.Option.{is_none, unwrap_or}
use Rattle.std.specs.Str.{bytes_eq}
use Rattle.pm_vector.specs.Numbers.{Ratio}
use Rattle.pm_files.specs.Files.{Mark, SavedFile, SavedProgram}
use Rattle.pm_geom.specs.Evidence.{evidence_number}
use Rattle.pm_object.specs.State.{HeldValue, State, empty_object, file_value, given_at, read_at, settling, value_of, with_held}
use Rattle.pm_object.specs.declared.held.Excluded.{Excluded}
use Rattle.pm_object.specs.declared.held.Origin.{Origin}
use Rattle.pm_object.specs.declared.held.Origin.TheVariants as origin
use Rattle.pm_object.specs.declared.held.Why.{Why}
use Rattle.pm_object.specs.declared.held.Why.TheVariants as why
use Rattle.pm_props.specs.Places.{same_place}
use Rattle.pm_props.specs.Sets.{has, set_of}
use Rattle.pm_props.specs.declared.kind.RuleId.{RuleId}
use Rattle.pm_props.specs.declared.property.PropId.{PropId}
use Rattle.pm_props.specs.declared.property.PropId.TheVariants.{LinearObjective}
use Rattle.pm_props.specs.declared.set.PropSet.{PropSet}
use Rattle.pm_rules.specs.Rules.{rule_at}
use Rattle.pm_rules.specs.declared.rule.Rule.{Rule}
use Rattle.pm_types.specs.Values.{PropertyValue, matrix}

-- ---- from a file
-- what the file tells to be stored is stored; all else was given
abbrev pub origin_in : PropSet → PropId → Origin
origin_in stored p = if has stored p then origin.Stored else origin.Given

abbrev pub loaded_value : PropSet → PropId × PropertyValue → HeldValue
loaded_value stored v = file_value (origin_in stored v.0) v.0 v.1

abbrev pub labelled_from : ℕ → List ℕ → List Rule → Option RuleId
labelled_from k label [] = None
labelled_from k label (rule ∷ book) = if bytes_eq rule.label label then Some (record { 0 = k })
    else labelled_from (suc k) label book

-- the first rule of the book that has this label
abbrev pub rule_labelled : List Rule → List ℕ → Option RuleId
rule_labelled book label = labelled_from 0 label book

-- the rule failed in an earlier run, for the object or for a program of it, with evidence of this number
abbrev pub marked : Option ℕ → ℕ → RuleId → Excluded
marked sub k id = record { rule = id; sub = sub; why = why.Stored k }

-- the exclusion that a mark tells, where the book has its label
abbrev pub mark_read : List Rule → Option ℕ → Mark → List Excluded
mark_read book sub m = option_to_list (option_map (marked sub m.1) (rule_labelled book m.0))

-- how many entries the first row has
abbrev pub entries_of : List (List Ratio) → ℕ
entries_of [] = 0
entries_of (r ∷ rows) = length r

-- the row of an objective, as a value
abbrev pub objective_value : List (List Ratio) → PropertyValue
objective_value rows = matrix (entries_of rows) rows

-- the objective of the program at a place, if it has one: it was given
abbrev pub objective_held : ℕ → Option (List (List Ratio)) → List HeldValue
objective_held k None = []
objective_held k (Some rows) = given_at (Some k) LinearObjective (objective_value rows) ∷ []

-- the objectives of these programs, of which the first has the place k
abbrev pub objectives_held : ℕ → List SavedProgram → List HeldValue
objectives_held k [] = []
objectives_held k (p ∷ ps) = objective_held k p.objective ++ objectives_held (suc k) ps

-- the exclusions that their marks tell
abbrev pub marks_of_programs : List Rule → ℕ → List SavedProgram → List Excluded
marks_of_programs book k [] = []
marks_of_programs book k (p ∷ ps) = flat_map (mark_read book (Some k)) p.failed
    ++ marks_of_programs book (suc k) ps

abbrev pub name_told : SavedProgram → List ℕ
name_told p = unwrap_or p.name []

-- the object with these programs behind its own: their objectives, what their marks tell, and their names
abbrev pub with_programs : List Rule → State → List SavedProgram → State
with_programs book o ps = record o {
  held = o.held ++ objectives_held (length o.programs) ps;
  excluded = o.excluded ++ marks_of_programs book (length o.programs) ps;
  programs = o.programs ++ map name_told ps;
}

-- what the file holds: its values, the rules of the book that failed, and its programs
abbrev pub unsettled_object : List Rule → SavedFile → State
unsettled_object book f =
    with_programs book (record (empty_object f.of) {
      held = map (loaded_value f.stored) f.values;
      excluded = flat_map (mark_read book None) f.failed;
    }) f.programs

-- the object that is made of the file: that, and what goes without saying
abbrev pub loaded_object : List Rule → SavedFile → State
loaded_object book f = with_held (unsettled_object book f) (settling (unsettled_object book f))

-- the keys that are read over
abbrev pub read_over : SavedFile → List (List ℕ)
read_over f = f.ignored

-- ---- to a file
abbrev pub property_with_value : HeldValue → PropId × PropertyValue
property_with_value h = (h.property, h.value)

-- the values of the object itself, not of its programs
abbrev pub own : List HeldValue → List HeldValue
own held = filter (λ h. is_none h.place) held

abbrev pub is_found : Origin → Bool
is_found origin.Given = false
is_found origin.Stored = true
is_found origin.Computed = true

-- the value was computed, in this run or an earlier one, and is the object's own
abbrev pub is_own_found : HeldValue → Bool
is_own_found h = is_none h.place && is_found h.origin

-- the names of those values
abbrev pub found_names : List HeldValue → PropSet
found_names held = set_of (map (λ h. h.property) (filter is_own_found held))

-- the number of the evidence of a failure
abbrev pub failure_of : Why → Option ℕ
failure_of (why.Failed evidence) = Some (evidence_number evidence)
failure_of (why.False p) = None
failure_of (why.Stored k) = Some k

abbrev pub label_in : Option Rule → Option (List ℕ)
label_in rule = option_map (λ r. r.label) rule

-- the mark of a rule that failed; a condition that is held with the wrong value needs none
abbrev pub mark_by : Option (List ℕ) → Option ℕ → List Mark
mark_by (Some label) (Some k) = (label, k) ∷ []
mark_by label k = []

-- so for the object itself, or for the program at a place
abbrev pub mark_written : List Rule → Option ℕ → Excluded → List Mark
mark_written book sub e = if same_place e.sub sub then mark_by (label_in (rule_at book e.rule))
    (failure_of e.why) else []

-- a mark more, unless one has its label
abbrev pub with_mark : List Mark → Mark → List Mark
with_mark ms m = if list_any (λ n. bytes_eq n.0 m.0) ms then ms else ms ++ m ∷ []

-- of each label the first mark
abbrev pub each_label_once : List Mark → List Mark
each_label_once ms = fold with_mark [] ms

-- the marks of the rules that failed there
abbrev pub marks_written : List Rule → Option ℕ → List Excluded → List Mark
marks_written book sub excluded = each_label_once (flat_map (mark_written book sub) excluded)

abbrev pub objective_rows : Option PropertyValue → Option (List (List Ratio))
objective_rows (Some (matrix n rows)) = Some rows
objective_rows v = None

-- the program of this name at a place: its objective, where it holds one, and its marks
abbrev pub saved_program : List Rule → State → ℕ → List ℕ → SavedProgram
saved_program book o k name = record {
  name = Some name;
  objective = objective_rows (value_of LinearObjective (read_at (Some k) o.held));
  failed = marks_written book (Some k) o.excluded;
}

-- the programs of these names, of which the first has the place k
abbrev pub saved_programs : List Rule → State → ℕ → List (List ℕ) → List SavedProgram
saved_programs book o k [] = []
saved_programs book o k (name ∷ names) = saved_program book o k name ∷ saved_programs book o (suc k) names

-- the file that is written of the object; what rules computed of its programs is not written
abbrev pub saved_file : List Rule → State → SavedFile
saved_file book o = record {
  of = o.of;
  values = map property_with_value (own o.held);
  stored = found_names o.held;
  failed = marks_written book None o.excluded;
  programs = saved_programs book o 0 o.programs;
  ignored = [];
}
