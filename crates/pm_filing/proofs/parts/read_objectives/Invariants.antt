-- What is left is read after what was read.
use Rattle.std.proofs.Common.{◌≡◌, drop, length, true}
use Rattle.std.specs.List.{list_all}
use Rattle.serde_json.specs.View.{items_view}
use Rattle.pm_json.specs.Readings.{with_front}
use Rattle.pm_filing.specs.FileParts.{objectives_from}
use Rattle.pm_filing.specs.ReadingViews.{is_formed_objective, objectives_seen}
use Rattle.pm_filing.proofs.parts.read_objectives.Given as goal

abbrev pub invariant-loop-program : goal.invariant-loop-program
invariant-loop-program l =
    (objectives_from 0 (items_view l.list)
    ≡ with_front (objectives_seen l.objectives.items) (objectives_from (length (objectives_seen l.objectives.items)) (items_view (drop l.program-index l.list))))
    × (list_all is_formed_objective (objectives_seen l.objectives.items) ≡ true)
