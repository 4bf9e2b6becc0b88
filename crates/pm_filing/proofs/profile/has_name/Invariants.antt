-- What is left decides.
use Rattle.std.proofs.Common.{◌≡◌, drop, map, string_bytes, bytes_eq}
use Rattle.std.specs.List.{list_any}
use Rattle.pm_filing.proofs.profile.has_name.Given as goal

abbrev pub invariant-loop-other : goal.invariant-loop-other
invariant-loop-other l = list_any (λ n. bytes_eq n l.name) (map string_bytes l.names) ≡ list_any (λ n. bytes_eq n l.name) (map string_bytes (drop l.other-index l.names))
