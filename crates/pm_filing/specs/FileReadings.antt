-- When bytes are read as a data file, and for which fault they are refused: the tests of columns and rows, and the
-- whole.
use Rattle.std.specs.Prelude.{ℕ, ◌≡◌, ◌⊎◌, ⊤, IsTrue, List, [], ◌∷◌, ◌++◌, ◌&&◌, ◌||◌, Bool, false, codes, nat_eq, Option, Some, None, Ok, Err, option_and_then, if◌then◌else◌}
use Rattle.std.specs.List.{list_all}
use Rattle.pm_object.specs.State.{agrees, ambient_in, have_as_many_sites, or_else}
use Rattle.pm_props.specs.Names.{property_named_in}
use Rattle.pm_props.specs.Places.{same_property}
use Rattle.pm_props.specs.Properties.{is_ambient, name_in}
use Rattle.pm_object_type.specs.declared.object_type.ObjectType.{ObjectType}
use Rattle.pm_props.specs.declared.property.PropId.{PropId}
use Rattle.pm_props.specs.declared.property.PropId.TheVariants.{LinearObjective, SiteHeights, Sites}
use Rattle.pm_types.specs.Forms.{HavePrimitiveRows, are_rows, stated_cols}
use Rattle.pm_types.specs.Values.{PropertyValue}
use Rattle.serde_json.specs.Data.{Data, Items, Members, item, no_items}
use Rattle.serde_json.specs.Find.{as_array, as_str, get}
use Rattle.pm_files.specs.Files.{SavedFile}
use Rattle.pm_filing.specs.FileParts.{FileFault, FileRead, Part, value, programs, bad_row, data_in, members_in, parts_in, then_read, type_in}
use Rattle.pm_filing.specs.Profiles.{file_in, is_profile_2}

-- ---- the tests of columns and rows
-- the column count that is known after a value
abbrev pub cols_of_value : PropId → PropertyValue → Option ℕ
cols_of_value p v = if is_ambient p then ambient_in (Some v) else if nat_eq (stated_cols p v) 0 then None
    else Some (stated_cols p v)

abbrev pub cols_after : Option ℕ → PropId → PropertyValue → Option ℕ
cols_after n p v = or_else n (cols_of_value p v)

-- a value under the name of its key
pub record Named : Type 0 where
  pub name : List ℕ
  pub property : PropId
  pub value : PropertyValue

-- a value of SITE_HEIGHTS has an entry for each row of a value of SITES among these
abbrev pub fits_sites : List Named → PropId → PropertyValue → Bool
fits_sites tied p v = list_all (λ x. have_as_many_sites x.property x.value p v) tied

-- the columns of a value agree with n, heights with the sites of the values to which they are tied, its rows pass
-- their tests, and their primitive rows are made within the range
pub record Passes (of : ObjectType) (tied : List Named) (n : Option ℕ) (p : PropId) (v : PropertyValue)
    : Type 0 where
  pub columns : IsTrue (agrees n p v)
  pub sites : IsTrue (fits_sites tied p v)
  pub rows : IsTrue (are_rows of p v)
  pub primitive : HavePrimitiveRows p v

abbrev pub named_objective : Option PropertyValue → List Named
named_objective None = []
named_objective (Some v) = record { name = codes "LP"; property = LinearObjective; value = v } ∷ []

abbrev pub named_objectives : List (Option PropertyValue) → List Named
named_objectives [] = []
named_objectives (v ∷ vs) = named_objective v ++ named_objectives vs

abbrev pub named_part : ObjectType → Part → List Named
named_part of (value p v) = record { name = name_in of p; property = p; value = v } ∷ []
named_part of (programs vs) = named_objectives vs

-- the values of the parts, in their order
abbrev pub named_values : ObjectType → List Part → List Named
named_values of [] = []
named_values of (part ∷ parts) = named_part of part ++ named_values of parts

-- the column count that is known after all these
abbrev pub cols_after_all : Option ℕ → List Named → Option ℕ
cols_after_all n [] = n
cols_after_all n (x ∷ xs) = cols_after_all (cols_after n x.property x.value) xs

-- each value passes, where n is the column count that is known before the first
abbrev pub ArePassed : ObjectType → List Named → Option ℕ → List Named → Type 0
ArePassed of tied n [] = ⊤
ArePassed of tied n (x ∷ xs) = Passes of tied n x.property x.value
    × ArePassed of tied (cols_after n x.property x.value) xs

-- the first that does not pass has this name
abbrev pub IsFirstBad : ObjectType → List Named → Option ℕ → List Named → List ℕ → Type 0
IsFirstBad of tied n [] name = ⊥
IsFirstBad of tied n (x ∷ xs) name =
    ((name ≡ x.name) × ¬ (Passes of tied n x.property x.value))
    ⊎ (Passes of tied n x.property x.value × IsFirstBad of tied (cols_after n x.property x.value) xs name)

-- ---- sites and heights that rules found
-- SITES or SITE_HEIGHTS
abbrev pub is_of_sites : Option PropId → Bool
is_of_sites None = false
is_of_sites (Some p) = same_property Sites p || same_property SiteHeights p

-- the name of one of them
abbrev pub names_sites : ObjectType → Data → Bool
names_sites of d = is_of_sites (option_and_then (property_named_in of) (as_str d))

abbrev pub any_names_sites : ObjectType → Items → Bool
any_names_sites of no_items = false
any_names_sites of (item d ds) = names_sites of d || any_names_sites of ds

abbrev pub list_names_sites : ObjectType → Option Items → Bool
list_names_sites of None = false
list_names_sites of (Some ds) = any_names_sites of ds

-- the profile is 2, and `_computed` is an array in which one of these names stands
abbrev pub finds_sites : ObjectType → Data → Bool
finds_sites of d =
    is_profile_2 d && list_names_sites of (option_and_then as_array (get (codes "_computed") d))

-- ---- the whole
-- what is read before the tests of columns and rows: the type, the top, and its parts
pub record Seen : Type 0 where
  pub of : ObjectType
  pub top : Data
  pub parts : List Part

abbrev pub seen_of : Data → Members → ObjectType → FileRead Seen
seen_of d ms of = then_read (parts_in of ms) (λ parts. Ok (record { of = of; top = d; parts = parts }))

abbrev pub seen_in : Data → FileRead Seen
seen_in d = then_read (members_in d) (λ ms. then_read (type_in d) (seen_of d ms))

abbrev pub seen : List ℕ → FileRead Seen
seen bytes = then_read (data_in bytes) seen_in

-- the values to which heights are tied: all of the file, or none where rules found sites or heights
abbrev pub tied_values : Seen → List Named
tied_values s = if finds_sites s.of s.top then [] else named_values s.of s.parts

-- each value passes
abbrev pub ArePassedIn : Seen → Type 0
ArePassedIn s = ArePassed s.of (tied_values s) None (named_values s.of s.parts)

-- the fault is of the name of the first that does not pass
abbrev pub HasBadRow : ObjectType → List Named → Option ℕ → List Named → FileFault → Type 0
HasBadRow of tied n xs fault = (name : List ℕ) × (fault ≡ bad_row name) × IsFirstBad of tied n xs name

abbrev pub HasBadRowIn : Seen → FileFault → Type 0
HasBadRowIn s fault = HasBadRow s.of (tied_values s) None (named_values s.of s.parts) fault

-- what was seen is read as this file
abbrev pub ReadsSeen : Seen → SavedFile → Type 0
ReadsSeen s f = ArePassedIn s × (file_in s.of s.top s.parts ≡ Ok f)

-- it is refused for this fault
abbrev pub RefusesSeen : Seen → FileFault → Type 0
RefusesSeen s fault = HasBadRowIn s fault ⊎ (ArePassedIn s × (file_in s.of s.top s.parts ≡ Err fault))

-- the bytes are read as this file
abbrev pub Reads : List ℕ → SavedFile → Type 0
Reads bytes f = (s : Seen) × (seen bytes ≡ Ok s) × ReadsSeen s f

-- the bytes are refused for this fault
abbrev pub Refuses : List ℕ → FileFault → Type 0
Refuses bytes fault = (seen bytes ≡ Err fault) ⊎ ((s : Seen) × (seen bytes ≡ Ok s) × RefusesSeen s fault)
