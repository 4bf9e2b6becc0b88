-- What is left decides.
use Rattle.std.proofs.Common.{◌≡◌, drop}
use Rattle.std.specs.List.{list_all}
use Rattle.pm_props.specs.NameWords.{is_name_byte}
use Rattle.pm_filing.proofs.profile.are_name_bytes.Given as goal

abbrev pub invariant-loop-b : goal.invariant-loop-b
invariant-loop-b l = list_all is_name_byte l.bytes ≡ list_all is_name_byte (drop l.b-index l.bytes)
