-- What a commit adds.
use Rattle.std.specs.Prelude.{ℕ, Bool, true, false, Option, Some, None, List, [], ◌∷◌, length}
use Rattle.std.specs.List.{Contains}
use Rattle.pm_object.specs.Formed.{IsBacked, IsFormedIn}
use Rattle.pm_object.specs.Laws.{computed_at}
use Rattle.pm_object.specs.State.{HeldValue, State, cols_of}
use Rattle.pm_object.specs.declared.held.Origin.TheVariants.{Computed}
use Rattle.pm_types.specs.Values.{Fact, PropertyValue}
use Rattle.pm_props.specs.declared.property.PropId.{PropId}

-- the value that was drafted for a property, as a computed one, where it is not held
abbrev pub added : Option ℕ → PropId → Bool → Option PropertyValue → List HeldValue
added sub p true v = []
added sub p false None = []
added sub p false (Some v) = computed_at sub p v ∷ []

-- each value of the answer has its form, agrees with the object's column count, passes the tests of rows, and stands
-- where it may: at a program that the object has, where it is one of programs; one of programs speaks of the order of
-- the rays only where a value of the object itself does
pub record FitsObject (o : State) (answer : List Fact) : Type 0 where
  pub each : (f : Fact) → Contains answer f
      → IsFormedIn o.of (cols_of o.held) (length o.programs)
      (record { place = f.place; property = f.property; value = f.value; origin = Computed })
  pub backed : (f : Fact) → Contains answer f → IsBacked f.property o.held
