use Rattle.std.proofs.Common.{◌≡◌, drop}
use Rattle.pm_filing.specs.Filing.{labelled_from, rule_labelled}
use Rattle.pm_filing.proofs.load.rule_labelled.Given as goal

abbrev pub invariant-loop-i : goal.invariant-loop-i
invariant-loop-i l = labelled_from l.i l.label (drop l.i l.rules) ≡ rule_labelled l.rules l.label
