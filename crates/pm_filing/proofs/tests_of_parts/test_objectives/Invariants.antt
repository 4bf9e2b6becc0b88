-- What is left is tested after what was tested.
use Rattle.std.proofs.Common.{◌≡◌, drop, map, true}
use Rattle.std.specs.List.{list_all}
use Rattle.pm_filing.specs.FileReadings.{named_objectives, named_values}
use Rattle.pm_filing.specs.ReadingViews.{is_formed_objective, objectives_seen, part_seen}
use Rattle.pm_filing.proofs.TestTurns.{Left}
use Rattle.pm_filing.proofs.tests_of_parts.test_objectives.Given as goal

abbrev pub invariant-loop-objective : goal.invariant-loop-objective
invariant-loop-objective l =
    Left l.of (named_values l.of (map part_seen l.tied)) l.fn.n (named_objectives (objectives_seen l.objectives)) l.cols (named_objectives (objectives_seen (drop l.objective-index l.objectives)))
    × (list_all is_formed_objective (objectives_seen (drop l.objective-index l.objectives)) ≡ true)
