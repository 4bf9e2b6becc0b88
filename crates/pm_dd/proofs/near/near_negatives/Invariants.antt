use Rattle.pm_dd.proofs.near.near_negatives.Given as goal
use Rattle.pm_dd.specs.Building.{AreNegativesLeft, IsPassed}

abbrev pub invariant-loop-j : goal.invariant-loop-j
invariant-loop-j l = AreNegativesLeft (IsPassed l.zeros l.values l.ahead l.need) l.values 0 l.j l.made.items
