-- What is left is tested after what was tested.
use Rattle.std.proofs.Common.{◌≡◌, drop, true, map, None}
use Rattle.pm_filing.specs.FileReadings.{named_values}
use Rattle.pm_filing.specs.ReadingViews.{are_formed_parts, part_seen}
use Rattle.pm_filing.proofs.TestTurns.{Left}
use Rattle.pm_filing.proofs.tests_of_parts.test_parts.Given as goal

abbrev pub invariant-loop-part : goal.invariant-loop-part
invariant-loop-part l =
    Left l.of (named_values l.of (map part_seen l.tied)) None (named_values l.of (map part_seen l.parts)) l.cols (named_values l.of (map part_seen (drop l.part-index l.parts)))
    × (are_formed_parts (map part_seen (drop l.part-index l.parts)) ≡ true)
