-- What is left stands behind what was put.
use Rattle.std.proofs.Common.{◌≡◌, ◌++◌, map}
use Rattle.pm_types.specs.Views.{view_of}
use Rattle.pm_filing.specs.Profiles.{objectives_in, values_in}
use Rattle.pm_filing.specs.ReadingViews.{objectives_seen, part_seen}
use Rattle.pm_filing.proofs.assembly.sort_parts.Given as goal

abbrev pub invariant-loop-part : goal.invariant-loop-part
invariant-loop-part l =
    (values_in (map part_seen l.fn.parts.items) ≡ map (λ v. (v.0, view_of v.1)) l.values.items ++ values_in (map part_seen l.part-iterator.rest.items))
    × (objectives_in (map part_seen l.fn.parts.items) ≡ objectives_seen l.objectives.items ++ objectives_in (map part_seen l.part-iterator.rest.items))
