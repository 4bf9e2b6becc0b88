-- What a data file holds of an object, and what is written for it: one JSON object, its keys in byte order
-- (polymake's data format: Assarf, Gawrilow et al., Computing convex hulls and counting integer points with
-- polymake).
use Rattle.std.specs.Prelude.{ℕ, Bool, false, not, List, [], ◌∷◌, ◌++◌, map, Option, Some, None, codes, decimal, if◌then◌else◌}
use Rattle.std.specs.Str.{bytes_eq}
use Rattle.pm_vector.specs.Numbers.{Ratio}
use Rattle.pm_props.specs.Names.{property_named_in}
use Rattle.pm_props.specs.Properties.{name_in}
use Rattle.pm_props.specs.Sets.{has}
use Rattle.pm_object_type.specs.declared.object_type.ObjectType.{ObjectType}
use Rattle.pm_object_type.specs.declared.object_type.ObjectType.TheVariants.{Polytope, Cone, Fan}
use Rattle.pm_props.specs.declared.property.PropId.{PropId}
use Rattle.pm_types.specs.Values.{PropertyValue}
use Rattle.serde_json.specs.Data.{Data, Members, unsigned, number, string, object, no_members, member, put}
use Rattle.serde_json.specs.Written.{compact_text}
use Rattle.pm_files.specs.ValueJson.{array_of, json_of, objective_json}

-- a rule that failed: its label, and the number of the evidence, from 1 to 5
abbrev pub Mark : Type 0
Mark = List ℕ × ℕ

-- a linear program of a polytope: its name and its objective, where it has them, and the rules that failed for it
pub record SavedProgram : Type 0 where
  pub name : Option (List ℕ)
  pub objective : Option (List (List Ratio))
  pub failed : List Mark

-- an object: its type, its values, which of them were computed, the rules that failed for it, its programs, and the
-- keys that were read over
pub record SavedFile : Type 0 where
  pub of : ObjectType
  pub values : List (PropId × PropertyValue)
  pub stored : ℕ
  pub failed : List Mark
  pub programs : List SavedProgram
  pub ignored : List (List ℕ)

-- the text of a type
abbrev pub type_text : ObjectType → List ℕ
type_text Polytope = codes "polytope::Polytope<Rational>"
type_text Cone = codes "polytope::Cone<Rational>"
type_text Fan = codes "fan::PolyhedralFan<Rational>"

-- ---- marks
-- E1 to E5
abbrev pub evidence_text : ℕ → List ℕ
evidence_text k = codes "E" ++ decimal k

-- [LABEL,"Ek"]
abbrev pub mark_json : Mark → Data
mark_json m = array_of (string m.0 ∷ string (evidence_text m.1) ∷ [])

abbrev pub marks_json : List Mark → Data
marks_json ms = array_of (map mark_json ms)

-- ---- programs
abbrev pub with_name : Option (List ℕ) → Members → Members
with_name None ms = ms
with_name (Some name) ms = put (codes "_name") (string name) ms

abbrev pub with_objective : Option (List (List Ratio)) → Members → Members
with_objective None ms = ms
with_objective (Some rows) ms = put (codes "LINEAR_OBJECTIVE") (objective_json rows) ms

abbrev pub program_json : SavedProgram → Data
program_json p =
    object (with_objective p.objective
    (with_name p.name (put (codes "_excluded") (marks_json p.failed) no_members)))

-- LP, where there is a program
abbrev pub with_programs : List SavedProgram → Members → Members
with_programs [] ms = ms
with_programs (p ∷ ps) ms = put (codes "LP") (array_of (map program_json (p ∷ ps))) ms

-- ---- values
-- each value under its name in the table of the type
abbrev pub with_values : ObjectType → List (PropId × PropertyValue) → Members → Members
with_values of [] ms = ms
with_values of (v ∷ vs) ms = with_values of vs (put (name_in of v.0) (json_of v.0 v.1) ms)

-- the key is not the property's name
abbrev pub is_other_name : ObjectType → List ℕ → PropId → Bool
is_other_name of key p = not (bytes_eq key (name_in of p))

abbrev pub is_in : ℕ → Option PropId → Bool
is_in stored None = false
is_in stored (Some p) = has stored p

-- the key is the name of a stored value
abbrev pub is_stored : ObjectType → ℕ → List ℕ → Bool
is_stored of stored key = is_in stored (property_named_in of key)

-- the keys of stored values, in their order
abbrev pub stored_keys : ObjectType → ℕ → Members → List (List ℕ)
stored_keys of stored no_members = []
stored_keys of stored (member key d ms) = if is_stored of stored key then key ∷ stored_keys of stored ms
    else stored_keys of stored ms

-- ---- the file
-- the type, the profile, and the rules that failed
abbrev pub heading : SavedFile → Members
heading f = put (codes "_excluded") (marks_json f.failed)
    (put (codes "_profile") (number (unsigned 2)) (put (codes "_type") (string (type_text f.of)) no_members))

abbrev pub contents : SavedFile → Members
contents f = with_programs f.programs (with_values f.of f.values (heading f))

-- the file, with the names of its stored values
abbrev pub file_json : SavedFile → Data
file_json f =
    object (put (codes "_computed") (array_of (map string (stored_keys f.of f.stored (contents f))))
    (contents f))

-- its text, compact and ended by LF
abbrev pub file_bytes : SavedFile → List ℕ
file_bytes f = compact_text (file_json f) ++ 10 ∷ []
