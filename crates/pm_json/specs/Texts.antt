-- What a JSON text gives for a property.
use Rattle.std.specs.Prelude.{ℕ, List, Option, Some, None, Result, Ok, Err}
use Rattle.serde_json.specs.Data.{Data}
use Rattle.serde_json.specs.Read.{read}
use Rattle.pm_json.specs.Readings.{reading}
use Rattle.pm_json.specs.declared.fail.ValueFail.{ValueFail}
use Rattle.pm_json.specs.declared.text.TextFail.{TextFail}
use Rattle.pm_json.specs.declared.text.TextFail.TheVariants as text_fail
use Rattle.pm_props.specs.declared.property.PropId.{PropId}
use Rattle.pm_types.specs.Values.{PropertyValue}

-- no JSON, a fault in reading order, or a value
pub data Given : Type 0 where
  no_json : Given
  faulty : ValueFail → Given
  value : PropertyValue → Given

abbrev pub given_of : Result PropertyValue ValueFail → Given
given_of (Ok v) = value v
given_of (Err e) = faulty e

abbrev pub given_in : PropId → Option Data → Given
given_in p None = no_json
given_in p (Some d) = given_of (reading p d)

-- what the text gives
abbrev pub given_by : PropId → List ℕ → Given
given_by p text = given_in p (read text)

-- what a failure says of it
abbrev pub given_failing : TextFail → Given
given_failing text_fail.NotJson = no_json
given_failing (text_fail.Fault e) = faulty e
