use Rattle.std.proofs.Common.{◌≡◌, drop}
use Rattle.std.specs.Prelude.{map}
use Rattle.pm_object.specs.State.{sites_agree}
use Rattle.pm_object.specs.Views.{held_seen}
use Rattle.pm_types.specs.Views.{view_of}
use Rattle.pm_object.proofs.tests_of_values.sites_agree.Given as goal

abbrev pub invariant-loop-h : goal.invariant-loop-h
invariant-loop-h l = sites_agree (map held_seen l.held) l.p (view_of l.v) ≡ sites_agree (map held_seen (drop l.h-index l.held)) l.p (view_of l.v)
