use Rattle.std.proofs.Common.{◌≡◌, ◌++◌}
use Rattle.std.specs.Prelude.{map}
use Rattle.std.specs.Vec.Iter.{into_iter_items}
use Rattle.pm_filing.specs.Views.{value_seen}
use Rattle.pm_making.specs.Made.{given_values}
use Rattle.pm_making.proofs.making.add_all.Given as goal

-- the values so far are held, and the others are left
abbrev pub invariant-loop-p : goal.invariant-loop-p
invariant-loop-p l =
    (goal.iterator-loop-p).can_next l.p-iterator × (goal.iterator-loop-p).is_finite l.p-iterator
    × (l.yielded ++ into_iter_items l.p-iterator ≡ l.fn.values.items)
    × (l.object.state ≡ record l.fn.object.state { held = given_values (map value_seen l.yielded) })
