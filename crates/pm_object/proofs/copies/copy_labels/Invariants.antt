use Rattle.std.proofs.Common.{◌≡◌}
use Rattle.std.specs.Prelude.{map, take, string_bytes}
use Rattle.pm_object.proofs.copies.copy_labels.Given as goal

abbrev pub invariant-loop-label : goal.invariant-loop-label
invariant-loop-label l = map string_bytes l.copies.items ≡ take l.label-index (map string_bytes l.labels)
