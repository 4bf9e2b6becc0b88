use Rattle.pm_geom.specs.FaceCounts.{h_entry}
use Rattle.pm_graph.proofs.h_numbers.numbers.Given as goal
use Rattle.std.proofs.Common.{map, ◌≡◌}
use Rattle.std.specs.List.{All, range_with_len}
use mir.Syntax.{w64}
use mir.Val.{SFits}

abbrev pub invariant-loop-k : goal.invariant-loop-k
invariant-loop-k l = record {
  numbers : l.numbers.items ≡ map (h_entry l.f l.d) (range_with_len 0 l.k);
  fit : All (SFits w64) l.numbers.items;
}
