use Rattle.std.proofs.Common.{◌≡◌, drop}
use Rattle.std.specs.Prelude.{map}
use Rattle.pm_object.specs.State.{read_at, value_of}
use Rattle.pm_object.specs.Views.{held_seen}
use Rattle.pm_object.proofs.object.find_at.Given as goal

abbrev pub invariant-loop-h : goal.invariant-loop-h
invariant-loop-h l = value_of l.p (read_at l.sub (map held_seen l.held)) ≡ value_of l.p (read_at l.sub (map held_seen (drop l.h-index l.held)))
