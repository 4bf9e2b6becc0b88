-- Where the values of a property stand, and tests of equality.
use Rattle.std.specs.Prelude.{ℕ, Bool, true, false, Option, None, Some, nat_eq, if◌then◌else◌}
use Rattle.pm_props.specs.Properties.{has_program, number}
use Rattle.pm_props.specs.declared.property.PropId.{PropId}

-- where a value of the property stands, seen from a subobject if one is asked: in it where the property is one of
-- linear programs, else in the object itself
abbrev pub place_of : Option ℕ → PropId → Option ℕ
place_of sub p = if has_program p then sub else None

abbrev pub same_property : PropId → PropId → Bool
same_property p q = nat_eq (number p) (number q)

abbrev pub same_place : Option ℕ → Option ℕ → Bool
same_place None None = true
same_place None (Some s) = false
same_place (Some s) None = false
same_place (Some s) (Some r) = nat_eq s r
