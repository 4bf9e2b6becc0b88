-- The fault that is answered for a value is the first in reading order.
use Rattle.pm_json.specs.Readings.{reading}
use Rattle.pm_laws_texts.specs.ValueFaults.{HasFault}
use Rattle.pm_laws_texts.specs.Places.{Tells}
use Rattle.pm_props.specs.declared.property.PropId.{PropId}
use Rattle.serde_json.specs.Data.{Data}

-- reading a value tells of its faults: where it is read there is none, and else the fault is the first of those that
-- stand somewhere
abbrev pub FirstFaultIsRead : Type 0
FirstFaultIsRead = (p : PropId) (d : Data) → Tells (HasFault p d) (reading p d)
