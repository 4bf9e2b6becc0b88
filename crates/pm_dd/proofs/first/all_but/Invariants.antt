use Rattle.pm_dd.proofs.first.all_but.Given as goal
use Rattle.pm_dd.specs.Building.{AllBut}

abbrev pub invariant-loop-p : goal.invariant-loop-p
invariant-loop-p l = AllBut l.len l.p l.but l.made
