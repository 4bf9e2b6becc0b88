-- The values of new fans have the forms of their properties.
use Rattle.std.specs.Prelude.{ℕ, ◌≡◌, None}
use Rattle.std.specs.List.{All}
use Rattle.pm_files.specs.Files.{SavedFile}
use Rattle.pm_object.specs.Formed.{IsFormed}
use Rattle.pm_object.specs.Known.{IsReadable}
use Rattle.pm_object.specs.State.{State}
use Rattle.pm_object_type.specs.declared.object_type.ObjectType.TheVariants.{Fan}
use Rattle.pm_props.specs.declared.property.PropId.{PropId}
use Rattle.pm_types.specs.Forms.{FormsIn}
use Rattle.pm_types.specs.Values.{PropertyValue}
use Rattle.pm_fan.specs.Conditions.{face_reads, face_refusal, normal_reads, normal_refusal}
use Rattle.pm_fan.specs.Fans.{face_fan_of, fan_cols, normal_fan_of}

-- each value has the form of its property for a fan of n columns, and its rows pass their tests
abbrev pub HaveForms : ℕ → SavedFile → Type 0
HaveForms n f = All (λ (v : PropId × PropertyValue). FormsIn Fan n v.0 v.1) f.values

-- the values of the fans of polytopes, where no condition fails
pub record FansHaveForms : Type 0 where
  pub normal : (a : State) → IsFormed a → IsReadable normal_reads a → normal_refusal a ≡ None
      → HaveForms (fan_cols a) (normal_fan_of a)
  pub face : (a : State) → IsFormed a → IsReadable face_reads a → face_refusal a ≡ None
      → HaveForms (fan_cols a) (face_fan_of a)
