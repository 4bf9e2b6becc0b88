-- What is left is told behind what was told.
use Rattle.std.proofs.Common.{drop, ◌++◌, ◌≡◌}
use Rattle.std.specs.Prelude.{flat_map}
use Rattle.pm_telling.specs.Telling.{told_there}
use Rattle.pm_telling.proofs.held.held_among.Given as goal

abbrev pub invariant-loop-p : goal.invariant-loop-p
invariant-loop-p l = l.told.items ++ flat_map (told_there l.object.state l.sub) (drop l.p-index l.properties) ≡ flat_map (told_there l.object.state l.sub) l.properties
