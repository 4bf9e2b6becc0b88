-- What is left is read after what was read.
use Rattle.std.proofs.Common.{◌≡◌, map, true}
use Rattle.serde_json.specs.View.{members_view}
use Rattle.pm_filing.specs.FileParts.{parts_in}
use Rattle.pm_filing.specs.ReadingViews.{are_formed_parts, part_seen}
use Rattle.pm_filing.proofs.PartTurns.{with_parts}
use Rattle.pm_filing.proofs.parts.read_parts.Given as goal

abbrev pub invariant-loop-key : goal.invariant-loop-key
invariant-loop-key l =
    (parts_in l.of (members_view l.members.entries) ≡ with_parts (map part_seen l.parts.items) (parts_in l.of (members_view l.key-iterator)))
    × (are_formed_parts (map part_seen l.parts.items) ≡ true)
