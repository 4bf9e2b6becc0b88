-- What is left is put among the keys so far.
use Rattle.std.proofs.Common.{◌≡◌}
use Rattle.serde_json.specs.View.{members_view}
use Rattle.pm_filing.specs.FileParts.{with_other_keys}
use Rattle.pm_filing.proofs.ignored.put_other_keys.Given as goal

abbrev pub invariant-loop-key : goal.invariant-loop-key
invariant-loop-key l = with_other_keys (members_view l.fn.keys.entries) (members_view l.program.entries) ≡ with_other_keys (members_view l.keys.entries) (members_view l.key-iterator)
