-- What a data file holds, or why it is none: the parts of its object in byte order of keys, the keys that are read
-- over, and the tests of columns and rows.
use Rattle.std.specs.Prelude.{ℕ, suc, Bool, false, not, ◌&&◌, ◌||◌, ◌==◌, List, [], ◌∷◌, ◌++◌, codes, length, nat_le, nat_lt, Option, Some, None, is_some, option_and_then, Result, Ok, Err, slice_index, if◌then◌else◌}
use Rattle.std.specs.Str.{bytes_eq, is_utf8}
use Rattle.pm_json.specs.Readings.{Read, and_then, before, items_of, reading}
use Rattle.pm_json.specs.declared.fail.ValueFail.{ValueFail}
use Rattle.pm_json.specs.declared.fail.ValueFail.TheVariants.{Shape, Limit}
use Rattle.pm_props.specs.Names.{property_named_in}
use Rattle.pm_props.specs.Properties.{is_of_edges, is_of_lattices, value_kind}
use Rattle.pm_object_type.specs.declared.object_type.ObjectType.{ObjectType}
use Rattle.pm_object_type.specs.declared.object_type.ObjectType.TheVariants.{Polytope, Cone, Fan}
use Rattle.pm_props.specs.declared.property.PropId.{PropId}
use Rattle.pm_props.specs.declared.property.PropId.TheVariants.{LinearObjective}
use Rattle.pm_types.specs.Values.{PropertyValue}
use Rattle.serde_json.specs.Data.{Data, Members, Items, item, no_items, member, no_members, null, put}
use Rattle.serde_json.specs.Find.{as_object, as_str, get}
use Rattle.serde_json.specs.Read.{read}
use Rattle.pm_files.specs.Files.{type_text}
use Rattle.pm_limits.specs.Limits.{most_file_bytes}

-- why a file is not read
pub data FileFault : Type 0 where
  -- it is too long
  too_long : FileFault
  -- it is no JSON
  not_json : FileFault
  -- it is no object, or has no text as its type
  no_type : FileFault
  -- its type is not known
  unknown_type : FileFault
  -- the value of this key has a fault
  bad_property : List ℕ → ValueFail → FileFault
  -- the value of this key fails a test of columns or rows
  bad_row : List ℕ → FileFault
  -- this key of the profile is not right
  bad_profile : List ℕ → FileFault
  -- there is not enough memory
  out_of_memory : FileFault

-- what is read, or the fault
abbrev pub FileRead : Type 0 → Type 0
FileRead A = Result A FileFault

abbrev pub or_else_fault : {A : Type 0} → FileFault → Option A → FileRead A
or_else_fault fault None = Err fault
or_else_fault fault (Some a) = Ok a

abbrev pub then_read : {A B : Type 0} → FileRead A → (A → FileRead B) → FileRead B
then_read (Ok a) next = next a
then_read (Err fault) next = Err fault

-- ---- the text
-- the JSON that the bytes are, if they are JSON
abbrev pub json_in : List ℕ → Option Data
json_in bytes = if is_utf8 bytes then read bytes else None

abbrev pub data_in : List ℕ → FileRead Data
data_in bytes = if nat_le (length bytes) most_file_bytes then or_else_fault not_json (json_in bytes)
    else Err too_long

-- ---- the type
-- the type of this text
abbrev pub type_named : List ℕ → Option ObjectType
type_named text =
    if bytes_eq text (type_text Polytope) then Some Polytope
    else if bytes_eq text (type_text Cone) then Some Cone
    else if bytes_eq text (type_text Fan) then Some Fan
    else None

abbrev pub type_in : Data → FileRead ObjectType
type_in d = then_read (or_else_fault no_type (option_and_then as_str (get (codes "_type") d))) (λ text.
    or_else_fault unknown_type (type_named text))

abbrev pub members_in : Data → FileRead Members
members_in d = or_else_fault no_type (as_object d)

-- ---- keys
abbrev pub is_hidden : List ℕ → Bool
is_hidden key = not (length key == 0) && (slice_index key 0 == 95)

-- the key of a polytope's linear programs
abbrev pub is_programs_key : ObjectType → List ℕ → Bool
is_programs_key Polytope key = bytes_eq key (codes "LP")
is_programs_key of key = false

-- a graph or a lattice that is an object is of another form, and is read over
abbrev pub is_other_form : PropId → Data → Bool
is_other_form p d = is_some (as_object d) && (is_of_edges (value_kind p) || is_of_lattices (value_kind p))

-- the property whose value is read there, if there is one
abbrev pub read_as : Option PropId → Data → Option PropId
read_as None d = None
read_as (Some p) d = if is_other_form p d then None else Some p

abbrev pub property_at : ObjectType → List ℕ → Data → Option PropId
property_at of key d = read_as (property_named_in of key) d

-- ---- linear programs
abbrev pub objective_by : Option Data → Read (Option PropertyValue)
objective_by None = Ok None
objective_by (Some d) = and_then (reading LinearObjective d) (λ v. Ok (Some v))

-- the objective of a program, if it has one
abbrev pub objective_in : Data → Read (Option PropertyValue)
objective_in d = objective_by (get (codes "LINEAR_OBJECTIVE") d)

-- one program, or an array of programs
abbrev pub programs_of : Data → Read Items
programs_of d = if is_some (as_object d) then Ok (item d no_items) else items_of d

-- the objectives of the programs, which are objects, of which k came before; at most four
abbrev pub objectives_from : ℕ → Items → Read (List (Option PropertyValue))
objectives_from k no_items = Ok []
objectives_from k (item d ds) =
    if is_some (as_object d) then
    (if nat_lt k 4 then and_then (objective_in d) (λ v. before v (objectives_from (suc k) ds))
    else Err Limit)
    else Err Shape

abbrev pub objectives_of : Data → Read (List (Option PropertyValue))
objectives_of d = and_then (programs_of d) (objectives_from 0)

-- ---- the parts of an object
-- a value of a property, or the objectives of the linear programs
pub data Part : Type 0 where
  value : PropId → PropertyValue → Part
  programs : List (Option PropertyValue) → Part

-- the fault of this key
abbrev pub at_key : {A : Type 0} → List ℕ → Read A → FileRead A
at_key key (Ok a) = Ok a
at_key key (Err why) = Err (bad_property key why)

abbrev pub value_part : Option PropId → Data → Read (List Part)
value_part None d = Ok []
value_part (Some p) d = and_then (reading p d) (λ v. Ok (value p v ∷ []))

abbrev pub programs_part : Data → Read (List Part)
programs_part d = and_then (objectives_of d) (λ vs. Ok (programs vs ∷ []))

-- what is read at a key
abbrev pub part_at : ObjectType → List ℕ → Data → FileRead (List Part)
part_at of key d = at_key key (if is_programs_key of key then programs_part d
    else value_part (property_at of key d) d)

-- the parts, in the order of the keys
abbrev pub parts_in : ObjectType → Members → FileRead (List Part)
parts_in of no_members = Ok []
parts_in of (member key d ms) =
    then_read (part_at of key d) (λ part. then_read (parts_in of ms) (λ parts. Ok (part ++ parts)))

-- ---- keys that are read over
abbrev pub is_read_over : ObjectType → List ℕ → Data → Bool
is_read_over of key d = not (is_hidden key) && not (is_programs_key of key)
    && not (is_some (property_at of key d))

abbrev pub names_read_over : ObjectType → Members → List (List ℕ)
names_read_over of no_members = []
names_read_over of (member key d ms) = if is_read_over of key d then key ∷ names_read_over of ms
    else names_read_over of ms

-- a program's key that is read over
abbrev pub is_other_key : List ℕ → Bool
is_other_key key = not (is_hidden key) && not (bytes_eq key (codes "LINEAR_OBJECTIVE"))

abbrev pub with_other_key : Members → List ℕ → Members
with_other_key keys key = if is_other_key key then put key null keys else keys

-- the keys, and those of a program that are read over, each once, in byte order
abbrev pub with_other_keys : Members → Members → Members
with_other_keys keys no_members = keys
with_other_keys keys (member key d ms) = with_other_keys (with_other_key keys key) ms

abbrev pub other_keys_of : Members → Option Members → Members
other_keys_of keys None = keys
other_keys_of keys (Some ms) = with_other_keys keys ms

-- so of each program
abbrev pub other_keys_from : Members → Items → Members
other_keys_from keys no_items = keys
other_keys_from keys (item d ds) = other_keys_from (other_keys_of keys (as_object d)) ds

-- LP.KEY for each key
abbrev pub names_in_programs : Members → List (List ℕ)
names_in_programs no_members = []
names_in_programs (member key d ms) = (codes "LP." ++ key) ∷ names_in_programs ms

-- the names of what is read over, those of programs after the others
abbrev pub ignored_in : ObjectType → Members → Items → List (List ℕ)
ignored_in of ms ds = names_read_over of ms ++ names_in_programs (other_keys_from no_members ds)
