-- What is left stands behind what was made.
use Rattle.std.proofs.Common.{◌≡◌, ◌++◌, map, string_bytes, true}
use Rattle.std.specs.List.{list_all}
use Rattle.pm_filing.specs.Profiles.{programs_with}
use Rattle.pm_filing.specs.ReadingViews.{all_marks_seen, has_formed_objective, is_formed_objective, objectives_seen}
use Rattle.pm_files.specs.Views.{program_of}
use Rattle.pm_filing.proofs.assembly.programs_with.Given as goal

abbrev pub invariant-loop-objective : goal.invariant-loop-objective
invariant-loop-objective l =
    (programs_with (objectives_seen l.fn.objectives.items) (map string_bytes l.fn.names.items) (all_marks_seen l.fn.marks.items)
    ≡ map program_of l.programs.items ++ programs_with (objectives_seen l.objective-iterator.rest.items) (map string_bytes l.names.rest.items) (all_marks_seen l.marks.rest.items))
    × (list_all is_formed_objective (objectives_seen l.objective-iterator.rest.items) ≡ true)
    × (list_all has_formed_objective l.programs.items ≡ true)
