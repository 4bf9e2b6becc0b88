-- What holds of the texts of values.
use Rattle.std.specs.Prelude.{◌≡◌, Ok}
use Rattle.pm_json.specs.Grammar.{IsJsonOf}
use Rattle.pm_json.specs.Readings.{reading}
use Rattle.pm_props.specs.declared.property.PropId.{PropId}
use Rattle.pm_types.specs.Values.{PropertyValue}
use Rattle.serde_json.specs.Data.{Data}

-- a JSON value that is a value of a property is read as that value, so it is no other one
pub record TextsAreRead : Type 0 where
  pub read : (p : PropId) (d : Data) (v : PropertyValue) → IsJsonOf p d v → reading p d ≡ Ok v
  pub one_value : (p : PropId) (d : Data) (v w : PropertyValue) → IsJsonOf p d v → IsJsonOf p d w → v ≡ w
