use Rattle.std.proofs.Common.{◌≡◌, drop}
use Rattle.std.specs.Prelude.{map}
use Rattle.pm_object.specs.State.{first_cols}
use Rattle.pm_object.specs.Views.{held_seen}
use Rattle.pm_object.proofs.tests_of_values.first_cols.Given as goal

abbrev pub invariant-loop-h : goal.invariant-loop-h
invariant-loop-h l = first_cols (map held_seen l.held) ≡ first_cols (map held_seen (drop l.h-index l.held))
