-- The code's values as contracts see them, and which of them an object may take.
use Rattle.std.specs.Prelude.{ℕ, IsTrue, List}
use Rattle.std.specs.List.{All}
use Rattle.pm_object_type.specs.declared.object_type.ObjectType.{ObjectType}
use Rattle.pm_props.specs.declared.property.PropId.{PropId}
use Rattle.pm_types.specs.Forms.{HavePrimitiveRows, agrees_with, are_rows, is_formed}
use Rattle.pm_types.specs.Values.{PropertyValue}
use Rattle.pm_types.specs.Views.{view_of}
use Rattle.pm_types.specs.declared.value.Value.{Value}

-- a value that an object of this type with n columns may take from a file: it has its form and agrees with n, its
-- rows pass their tests, and their primitive rows are made within the range
pub record Suits (of : ObjectType) (n : ℕ) (p : PropId) (v : PropertyValue) : Type 0 where
  pub formed : IsTrue (is_formed p v)
  pub columns : IsTrue (agrees_with n p v)
  pub rows : IsTrue (are_rows of p v)
  pub primitive : HavePrimitiveRows p v

-- all values of a file are such, for one column count
abbrev pub AllSuit : ObjectType → List (PropId × PropertyValue) → Type 0
AllSuit of values = (n : ℕ) × All (λ (v : PropId × PropertyValue). Suits of n v.0 v.1) values

abbrev pub value_seen : PropId × Value → PropId × PropertyValue
value_seen v = (v.0, view_of v.1)
