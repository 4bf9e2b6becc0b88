use Rattle.std.proofs.Common.{◌≡◌, drop}
use Rattle.std.specs.Prelude.{map, string_bytes}
use Rattle.pm_object.specs.State.{is_disabled}
use Rattle.pm_object.proofs.object.is_among.Given as goal

abbrev pub invariant-loop-other : goal.invariant-loop-other
invariant-loop-other l = is_disabled l.label (map string_bytes l.labels) ≡ is_disabled l.label (map string_bytes (drop l.other-index l.labels))
