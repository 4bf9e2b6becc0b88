use Rattle.pm_plan.specs.Searches.{Expands}
use Rattle.pm_plan.proofs.search.Search.expand.Given as goal

abbrev pub invariant-loop-m : goal.invariant-loop-m
invariant-loop-m l = Expands l.moves l.m-index l.asked l.fn.self l.self l.row l.from
