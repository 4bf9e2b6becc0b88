-- What is left is shown behind what was shown.
use Rattle.std.proofs.Common.{drop, ◌++◌, ◌≡◌}
use Rattle.pm_telling.specs.Telling.{evidence_of}
use Rattle.pm_telling.proofs.evidence.evidence_of.Given as goal

abbrev pub invariant-loop-e : goal.invariant-loop-e
invariant-loop-e l = l.shown.items ++ evidence_of l.rules l.label (drop l.e-index l.excluded) ≡ evidence_of l.rules l.label l.excluded
