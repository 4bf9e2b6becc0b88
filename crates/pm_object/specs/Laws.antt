-- The laws of honesty: an object stays honest where it gains values that were given or stored while no round was
-- started, what goes without saying, or what a client may answer.
use Rattle.std.specs.Prelude.{ℕ, ◌≡◌, true, Option, Some, List, [], ◌∷◌, map}
use Rattle.std.specs.List.{Contains}
use Rattle.pm_object_type.specs.declared.object_type.ObjectType.{ObjectType}
use Rattle.pm_types.specs.Runs.{MayAnswer, MayRun, missing, shown}
use Rattle.pm_props.specs.Places.{place_of}
use Rattle.pm_types.specs.Values.{Fact, PropertyValue}
use Rattle.pm_props.specs.declared.property.PropId.{PropId}
use Rattle.pm_props.specs.declared.property.PropId.TheVariants.{LinearObjective}
use Rattle.pm_props.specs.declared.kind.Kind.{Kind}
use Rattle.pm_object.specs.Honest.{IsHonest, IsKept, facts, is_based}
use Rattle.pm_object.specs.State.{HeldValue, State, empty_object, given_at, settling, with_held}
use Rattle.pm_object.specs.declared.held.Origin.TheVariants.{Computed}

-- a computed value of a property, where it stands for who asks this program, if one is asked
abbrev pub computed_at : Option ℕ → PropId → PropertyValue → HeldValue
computed_at sub p v = record { place = place_of sub p; property = p; value = v; origin = Computed }

-- the facts of an answer as computed values, at their places
abbrev pub computed : List Fact → List HeldValue
computed answer =
    map (λ f. record { place = f.place; property = f.property; value = f.value; origin = Computed }) answer

abbrev pub EmptyIsKept : Type 0
EmptyIsKept = (of : ObjectType) → IsKept (empty_object of)

abbrev pub BasedIsKept : Type 0
BasedIsKept = (o : State) (more : List HeldValue) → o.rounds ≡ []
    → ((h : HeldValue) → Contains more h → is_based h.origin ≡ true) → IsKept o → IsKept (with_held o more)

-- an objective that is given to a program leaves the object so, also once rounds were started for the object
abbrev pub ObjectiveIsKept : Type 0
ObjectiveIsKept = (o : State) (s : ℕ) (v : PropertyValue) → IsKept o
    → IsKept (with_held o (given_at (Some s) LinearObjective v ∷ []))

abbrev pub SettledIsKept : Type 0
SettledIsKept = (o : State) → IsKept o → IsKept (with_held o (settling o))

abbrev pub CommitIsHonest : Type 0
CommitIsHonest = (o : State) (sub : Option ℕ) (kind : Kind) (n : ℕ) (answer : List Fact)
    → MayRun kind sub n (facts o.held) → MayAnswer o.of n kind sub (shown kind sub (facts o.held)) answer
    → IsHonest o → IsHonest (with_held o (computed (missing sub (facts o.held) answer)))

-- honesty is of the type and the held values alone
abbrev pub HonestyIsOfValues : Type 0
HonestyIsOfValues = (o p : State) → p.of ≡ o.of → p.held ≡ o.held → IsHonest o → IsHonest p
