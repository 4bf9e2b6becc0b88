-- An object, as contracts see it. A place is None for the object itself, and the number of a linear program for that
-- program of it.
use Rattle.std.specs.Prelude.{ℕ, suc, ◌≡◌, ◌⊎◌, ◌||◌, ◌&&◌, Bool, true, false, not, Option, Some, None, List, [], ◌∷◌, ◌++◌, codes, filter, length, map, nat_eq, nat_le, if◌then◌else◌}
use Rattle.std.specs.List.{list_all, list_any}
use Rattle.std.specs.Str.{bytes_eq}
use Rattle.std.specs.Option.{is_some, unwrap_or}
use Rattle.pm_object_type.specs.declared.object_type.ObjectType.{ObjectType}
use Rattle.pm_object_type.specs.declared.object_type.ObjectType.TheVariants.{Polytope}
use Rattle.pm_types.specs.Forms.{HavePrimitiveRows, cols_in, rows_in, stated_cols, agrees_with, are_rows}
use Rattle.pm_props.specs.Properties.{has}
use Rattle.pm_props.specs.Places.{place_of, same_place, same_property}
use Rattle.pm_props.specs.Sets.{set_of}
use Rattle.pm_props.specs.declared.set.PropSet.{PropSet}
use Rattle.pm_types.specs.Values.{PropertyValue, matrix, whole}
use Rattle.pm_props.specs.declared.property.PropId.{PropId}
use Rattle.pm_props.specs.declared.property.PropId.TheVariants.{ConeAmbientDim, Points, InputLineality, Inequalities, Equations, Vertices, LinealitySpace, Facets, AffineHull, LinearObjective, SiteHeights, Sites}
use Rattle.pm_props.specs.declared.kind.RuleId.{RuleId}
use Rattle.pm_weights.specs.declared.Cost.{Cost}
use Rattle.pm_object.specs.declared.held.BuildFail.{BuildFail}
use Rattle.pm_object.specs.declared.held.BuildFail.TheVariants.{NotFit, Memory}
use Rattle.pm_object.specs.declared.held.Condition.{Condition}
use Rattle.pm_object.specs.declared.held.Condition.TheVariants as condition
use Rattle.pm_object.specs.declared.held.Origin.{Origin}
use Rattle.pm_object.specs.declared.held.Origin.TheVariants.{Given, Stored, Computed}
use Rattle.pm_object.specs.declared.held.Excluded.{Excluded}
use Rattle.pm_object.specs.declared.held.RoundEnd.{RoundEnd}
use Rattle.pm_object.specs.declared.held.TakeFail.{TakeFail}
use Rattle.pm_object.specs.declared.held.TakeFail.TheVariants as refused
use Rattle.pm_object.specs.declared.held.ProgramFail.{ProgramFail}
use Rattle.pm_object.specs.declared.held.ProgramFail.TheVariants as program
use lib.IntN.{pos}
use Rattle.pm_limits.specs.Limits.{most_programs}

-- a place, a property, its value, and how the value came to be held
pub record HeldValue : Type 0 where
  pub place : Option ℕ
  pub property : PropId
  pub value : PropertyValue
  pub origin : Origin

-- a round: the place that was asked, the weight, the chain's rules, and how it ended
pub record RoundSeen : Type 0 where
  pub sub : Option ℕ
  pub weight : Cost
  pub chain : List RuleId
  pub end : RoundEnd

-- the object's type, its held values in order, the excluded rules, the rounds, the disabled labels, and the names of
-- its linear programs, by place
pub record State : Type 0 where
  pub of : ObjectType
  pub held : List HeldValue
  pub excluded : List Excluded
  pub rounds : List RoundSeen
  pub disabled : List (List ℕ)
  pub programs : List (List ℕ)

-- the state, and for how many values more the object has memory
pub record ObjectSeen : Type 0 where
  pub state : State
  pub spare : ℕ

abbrev pub empty_object : ObjectType → State
empty_object of = record { of = of; held = []; excluded = []; rounds = []; disabled = []; programs = [] }

-- the values that are read by who asks this program, if one is asked: the object's own, and that program's
abbrev pub read_at : Option ℕ → List HeldValue → List HeldValue
read_at sub held = filter (λ h. same_place h.place (place_of sub h.property)) held

-- the value of a property, if it is held
abbrev pub value_of : PropId → List HeldValue → Option PropertyValue
value_of p [] = None
value_of p (h ∷ held) = if same_property p h.property then Some h.value else value_of p held

-- whether it is held
abbrev pub is_held : PropId → List HeldValue → Bool
is_held p held = is_some (value_of p held)

-- the names that are held
abbrev pub names_of : List HeldValue → PropSet
names_of held = set_of (map (λ h. h.property) held)

-- a round was started for the object
abbrev pub has_rounds : State → Bool
has_rounds o = not (nat_eq (length o.rounds) 0)

abbrev pub is_stored : Origin → Bool
is_stored Stored = true
is_stored origin = false

-- a value that a rule computed in an earlier run is held
abbrev pub holds_stored : List HeldValue → Bool
holds_stored held = list_any (λ h. is_stored h.origin) held

-- a round was started for the object, or it holds a stored value
abbrev pub is_sealed : State → Bool
is_sealed o = has_rounds o || holds_stored o.held

abbrev pub is_given : Origin → Bool
is_given Given = true
is_given origin = false

abbrev pub is_computed : Origin → Bool
is_computed Computed = true
is_computed origin = false

-- a value that a rule computed stands at the place
abbrev pub holds_computed_at : Option ℕ → List HeldValue → Bool
holds_computed_at place held = list_any (λ h. is_computed h.origin && same_place h.place place) held

-- a round was started for who asks this program
abbrev pub has_rounds_at : Option ℕ → List RoundSeen → Bool
has_rounds_at place rounds = list_any (λ r. same_place r.sub place) rounds

-- whether the object is sealed, or the linear program at a place: it holds a computed value, or a round was started
-- for it
abbrev pub is_sealed_at : Option ℕ → State → Bool
is_sealed_at None o = is_sealed o
is_sealed_at (Some s) o = holds_computed_at (Some s) o.held || has_rounds_at (Some s) o.rounds

abbrev pub is_disabled : List ℕ → List (List ℕ) → Bool
is_disabled label [] = false
is_disabled label (other ∷ labels) = bytes_eq other label || is_disabled label labels

-- the dimension that a value of CONE_AMBIENT_DIM states
abbrev pub ambient_in : Option PropertyValue → Option ℕ
ambient_in (Some (whole (pos n))) = Some n
ambient_in v = None

abbrev pub first_cols : List HeldValue → Option ℕ
first_cols [] = None
first_cols (h ∷ held) = if nat_eq (stated_cols h.property h.value) 0 then first_cols held
    else Some (stated_cols h.property h.value)

abbrev pub or_else : Option ℕ → Option ℕ → Option ℕ
or_else None other = other
or_else (Some n) other = Some n

-- CONE_AMBIENT_DIM if it is held, else the first column count that a held value states; None where none does
abbrev pub cols_of : List HeldValue → Option ℕ
cols_of held = or_else (ambient_in (value_of ConeAmbientDim held)) (first_cols held)

-- the value's columns, or its ambient dimension, do not differ from n
abbrev pub agrees : Option ℕ → PropId → PropertyValue → Bool
agrees None p v = true
agrees (Some n) p v = agrees_with n p v

-- where the first is of SITES and the second of SITE_HEIGHTS, there are as many rows as heights
abbrev pub have_as_many_sites : PropId → PropertyValue → PropId → PropertyValue → Bool
have_as_many_sites p v q w = if same_property Sites p
    && same_property SiteHeights q then nat_eq (length (rows_in v)) (cols_in w) else true

-- so it is of two values either way
abbrev pub agree_in_sites : PropId → PropertyValue → PropId → PropertyValue → Bool
agree_in_sites p v q w = have_as_many_sites p v q w && have_as_many_sites q w p v

-- so it is of the value and each of these that was given
abbrev pub sites_agree : List HeldValue → PropId → PropertyValue → Bool
sites_agree held p v = list_all (λ h. if is_given h.origin then agree_in_sites p v h.property h.value
    else true) held

-- whether a value of the property may be given there: one of the type's table to the object, the objective to a
-- linear program
abbrev pub is_given_at : ObjectType → Option ℕ → PropId → Bool
is_given_at of None p = has of p
is_given_at of (Some s) p = same_property LinearObjective p

-- the first reason not to take the value, for the object or for the program at a place, in the order in which it is
-- asked, before its primitive rows are asked for
abbrev pub take_refusal : State → Option ℕ → PropId → PropertyValue → Option TakeFail
take_refusal o sub p v = if is_held p (read_at sub o.held) then Some refused.AlreadyHeld
    else if is_sealed_at sub o then Some refused.Sealed
    else if not (is_given_at o.of sub p) then Some refused.NotOfType
    else if not (agrees (cols_of o.held) p v) then Some refused.Columns
    else if not (sites_agree o.held p v) then Some refused.Columns
    else if not (are_rows o.of p v) then Some refused.NotAThing
    else None

-- there is none, and the primitive rows are made within the range
abbrev pub CanTake : State → Option ℕ → PropId → PropertyValue → Type 0
CanTake o sub p v = (take_refusal o sub p v ≡ None) × HavePrimitiveRows p v

-- e is that reason; where there is none the value is no such thing, as some primitive row is not made within the range
abbrev pub CannotTake : State → Option ℕ → PropId → PropertyValue → TakeFail → Type 0
CannotTake o sub p v refused.NotAThing = (take_refusal o sub p v ≡ Some refused.NotAThing)
    ⊎ ((take_refusal o sub p v ≡ None) × ¬ (HavePrimitiveRows p v))
CannotTake o sub p v e = take_refusal o sub p v ≡ Some e

-- a given value of the property, where it stands for who asks this program, if one is asked
abbrev pub given_at : Option ℕ → PropId → PropertyValue → HeldValue
given_at sub p v = record { place = place_of sub p; property = p; value = v; origin = Given }

-- the place of a name in a list, counted from k
abbrev pub place_from : ℕ → List ℕ → List (List ℕ) → Option ℕ
place_from k name [] = None
place_from k name (other ∷ names) = if bytes_eq other name then Some k else place_from (suc k) name names

-- the place of the object's program of this name
abbrev pub place_named : List ℕ → State → Option ℕ
place_named name o = place_from 0 name o.programs

abbrev pub is_polytope : ObjectType → Bool
is_polytope Polytope = true
is_polytope of = false

-- the first reason not to add a program of this name
abbrev pub program_refusal : State → List ℕ → Option ProgramFail
program_refusal o name = if not (is_polytope o.of) then Some program.NotPolytope
    else if is_some (place_named name o) then Some program.NameTaken
    else if nat_le most_programs (length o.programs) then Some program.Full
    else None

-- ---- the object with more; all else as it was
abbrev pub with_held : State → List HeldValue → State
with_held o more = record o { held = o.held ++ more }

abbrev pub with_round : State → RoundSeen → State
with_round o r = record o { rounds = o.rounds ++ r ∷ [] }

abbrev pub with_excluded : State → Excluded → State
with_excluded o e = record o { excluded = o.excluded ++ e ∷ [] }

abbrev pub with_disabled : State → List ℕ → State
with_disabled o label = record o { disabled = o.disabled ++ label ∷ [] }

-- one linear program more, without an objective
abbrev pub with_program : State → List ℕ → State
with_program o name = record o { programs = o.programs ++ name ∷ [] }

-- a value of a file, which was given or stored
abbrev pub file_value : Origin → PropId → PropertyValue → HeldValue
file_value origin p v = record { place = None; property = p; value = v; origin = origin }

-- ---- settling
abbrev pub only_if : Bool → PropId → List PropId
only_if b p = if b then p ∷ [] else []

abbrev pub names_to_settle : List HeldValue → List PropId
names_to_settle held =
    only_if (not (is_held ConeAmbientDim held)) ConeAmbientDim
    ++ only_if (is_held Points held && not (is_held InputLineality held)) InputLineality
    ++ only_if (is_held Inequalities held && not (is_held Equations held)) Equations
    ++ only_if (is_held Vertices held && not (is_held Points held) && not (is_held Inequalities held)
    && not (is_held Facets held && is_held AffineHull held)
    && not (is_held LinealitySpace held)) LinealitySpace
    ++ only_if (is_held Facets held && not (is_held Points held) && not (is_held Inequalities held)
    && not (is_held Vertices held) && not (is_held AffineHull held)) AffineHull

-- what goes without saying of an object without rounds, where it is not held
abbrev pub settling_names : State → List PropId
settling_names o = if has_rounds o then [] else names_to_settle o.held

abbrev pub settled_value : ℕ → PropId → PropertyValue
settled_value n ConeAmbientDim = whole (pos n)
settled_value n p = matrix 0 []

abbrev pub settled : ℕ → PropId → HeldValue
settled n p = record { place = None; property = p; value = settled_value n p; origin = Given }

-- these, as given values: the column count (1 where it is unknown), and matrices without rows
abbrev pub settling : State → List HeldValue
settling o = map (settled (unwrap_or (cols_of o.held) 1)) (settling_names o)

-- ---- why an object is not built
-- the word of a condition
abbrev pub word_of : Condition → List ℕ
word_of condition.OfType = codes "type"
word_of condition.Bounded = codes "BOUNDED"
word_of condition.FullDim = codes "FULL_DIM"
word_of condition.Centered = codes "CENTERED"
word_of condition.Feasible = codes "FEASIBLE"
word_of condition.Columns = codes "columns"
word_of condition.Rows = codes "rows"
word_of condition.Size = codes "size"

-- the answer names this condition, the first that fails; want of memory may come at any time
abbrev pub IsRefused : Option Condition → BuildFail → Type 0
IsRefused first (NotFit c) = first ≡ Some c
IsRefused first Memory = Unit {0}
