-- The barred rules of the question, and those that were told so far.
use Rattle.std.specs.Prelude.{◌≡◌, ◌++◌, drop, map}
use Rattle.pm_printed.specs.Readings.{seen}
use Rattle.pm_printed.proofs.judge.all_barred.Given as goal

abbrev pub invariant-loop-one : goal.invariant-loop-one
invariant-loop-one l = l.barred.items ++ map (λ x. x.0) (map seen (drop l.one-index l.told)) ≡ l.q.barred.items ++ map (λ x. x.0) (map seen l.told)
