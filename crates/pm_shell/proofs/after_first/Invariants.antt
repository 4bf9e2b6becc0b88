-- The words so far and those that are left are all but the first.
use Rattle.std.proofs.Common.{drop, ◌≡◌, ◌++◌}
use Rattle.std.specs.Vec.Iter.{into_iter_items}
use Rattle.pm_shell.proofs.after_first.Given as goal

abbrev pub invariant-loop-word : goal.invariant-loop-word
invariant-loop-word l =
    (goal.iterator-loop-word).can_next l.word-iterator × (goal.iterator-loop-word).is_finite l.word-iterator
    × (l.words.items ++ into_iter_items l.word-iterator ≡ drop 1 (into_iter_items l.fn.args))
