-- Which faults the values of a data file have, and which of them is answered. A place is the number of a key in byte
-- order, then a place in its value.
use Rattle.std.specs.Prelude.{ℕ, ◌≡◌, List, [], ◌∷◌, ◌⊎◌, Err, None, Ok, Option, Some, codes, true, false, zero, suc, Bool}
use Rattle.pm_filing.specs.FileParts.{FileRead, bad_property, is_programs_key, parts_in, property_at}
use Rattle.pm_json.specs.declared.fail.ValueFail.{ValueFail}
use Rattle.pm_json.specs.declared.fail.ValueFail.TheVariants.{Shape}
use Rattle.pm_laws_texts.specs.ValueFaults.{HasFault}
use Rattle.pm_laws_texts.specs.Places.{AtItem, IsFirst, OneTooMany}
use Rattle.pm_object_type.specs.declared.object_type.ObjectType.{ObjectType}
use Rattle.pm_props.specs.declared.property.PropId.{PropId}
use Rattle.pm_props.specs.declared.property.PropId.TheVariants.{LinearObjective}
use Rattle.serde_json.specs.Data.{Data, Members, array, member, no_members, object}
use Rattle.serde_json.specs.Find.{get}

-- ---- linear programs
-- the fault is one of the objective, if there is one; it stands at the place 0 of the program
abbrev pub OfObjective : Option Data → List ℕ → ValueFail → Type 0
OfObjective None r f = ⊥
OfObjective (Some d) [] f = ⊥
OfObjective (Some d) (suc i ∷ r) f = ⊥
OfObjective (Some d) (zero ∷ r) f = HasFault LinearObjective d r f

-- the program of number k is an object, of at most four
abbrev pub OfProgram : ℕ → Data → List ℕ → ValueFail → Type 0
OfProgram k (object ms) r f =
    OneTooMany 4 k r f ⊎ OfObjective (get (codes "LINEAR_OBJECTIVE") (object ms)) r f
OfProgram k d r f = (r ≡ []) × (f ≡ Shape)

-- one program stands at the place 0
abbrev pub OfOne : (List ℕ → ValueFail → Type 0) → List ℕ → ValueFail → Type 0
OfOne Stands [] f = ⊥
OfOne Stands (suc i ∷ r) f = ⊥
OfOne Stands (zero ∷ r) f = Stands r f

-- one program, or an array of programs
abbrev pub OfPrograms : Data → List ℕ → ValueFail → Type 0
OfPrograms (object ms) r f = OfOne (OfProgram 0 (object ms)) r f
OfPrograms (array ds) r f = AtItem OfProgram ds r f
OfPrograms d r f = (r ≡ []) × (f ≡ Shape)

-- ---- keys
abbrev pub OfPropertyAt : Option PropId → Data → List ℕ → ValueFail → Type 0
OfPropertyAt None d r f = ⊥
OfPropertyAt (Some p) d r f = HasFault p d r f

abbrev pub OfKeyBy : Bool → ObjectType → List ℕ → Data → List ℕ → ValueFail → Type 0
OfKeyBy true of key d r f = OfPrograms d r f
OfKeyBy false of key d r f = OfPropertyAt (property_at of key d) d r f

-- the fault is one of the value of this key, as programs or as a value of the property that the key names
abbrev pub OfKey : ObjectType → List ℕ → Data → List ℕ → ValueFail → Type 0
OfKey of key d r f = OfKeyBy (is_programs_key of key) of key d r f

-- it is one of a member, whose number comes first in the place
abbrev pub AtKey : ObjectType → Members → List ℕ → ValueFail → Type 0
AtKey of no_members r f = ⊥
AtKey of (member key d ms) [] f = ⊥
AtKey of (member key d ms) (zero ∷ r) f = OfKey of key d r f
AtKey of (member key d ms) (suc i ∷ r) f = AtKey of ms (i ∷ r) f

-- the key of that number
abbrev pub key_at : Members → List ℕ → List ℕ
key_at no_members r = []
key_at (member key d ms) [] = []
key_at (member key d ms) (zero ∷ r) = key
key_at (member key d ms) (suc i ∷ r) = key_at ms (i ∷ r)

-- what a reading tells of the faults of the keys: where it is Ok there is none, and else the fault is that of a key,
-- and the first
abbrev pub TellsKey : {A : Type 0} → ObjectType → Members → FileRead A → Type 0
TellsKey of ms (Ok a) = (r : List ℕ) (f : ValueFail) → ¬ (AtKey of ms r f)
TellsKey of ms (Err fault) = (r : List ℕ) × (f : ValueFail) × IsFirst (AtKey of ms) r f
    × (fault ≡ bad_property (key_at ms r) f)

-- reading the parts of a file answers the first fault of its values, with its key
abbrev pub FirstKeyIsNamed : Type 0
FirstKeyIsNamed = (of : ObjectType) (ms : Members) → TellsKey of ms (parts_in of ms)
