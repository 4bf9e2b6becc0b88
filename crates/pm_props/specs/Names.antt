-- Look-ups of properties by their names.
use Rattle.std.specs.Prelude.{◌≡◌, ℕ, Bool, ◌&&◌, ◌||◌, ◌⊎◌, Option, List, drop, find}
use Rattle.std.specs.Str.{bytes_eq}
use Rattle.pm_object_type.specs.declared.object_type.ObjectType.{ObjectType}
use Rattle.pm_props.specs.declared.property.PropId.{PropId}
use Rattle.pm_props.specs.Properties.{every_property, first_name, cone_name, fan_name, name_in, has, has_program}

-- a book may write the property so: by its name in the table of polytopes and programs, of cones or of fans
abbrev pub IsNameOf : List ℕ → PropId → Type 0
IsNameOf text p = (text ≡ first_name p) ⊎ ((text ≡ cone_name p) ⊎ (text ≡ fan_name p))

abbrev pub is_name : List ℕ → PropId → Bool
is_name text p = bytes_eq text (first_name p) || (bytes_eq text (cone_name p) || bytes_eq text (fan_name p))

-- the name of a property of linear programs without `LP.` before it
abbrev pub program_name : PropId → List ℕ
program_name p = drop 3 (first_name p)

abbrev pub is_program_name : List ℕ → PropId → Bool
is_program_name text p = has_program p && bytes_eq text (drop 3 (first_name p))

-- the first property that a book may write so
abbrev pub property_named : List ℕ → Option PropId
property_named text = find (is_name text) every_property

-- the first property of this name in the table of the type
abbrev pub property_named_in : ObjectType → List ℕ → Option PropId
property_named_in of text = find (λ p. has of p && bytes_eq text (name_in of p)) every_property

-- the first property of linear programs with this name, without `LP.`
abbrev pub program_named : List ℕ → Option PropId
program_named text = find (is_program_name text) every_property
