use Rattle.pm_dd.proofs.many.kept_copies.Given as goal
use Rattle.pm_dd.specs.Building.{IsListed, SeenKept, kept_count}
use Rattle.std.proofs.Common.{length, take, ◌≡◌}

abbrev pub invariant-loop-i : goal.invariant-loop-i
invariant-loop-i l = record {
  count : length l.made.items ≡ kept_count (take l.i l.values);
  listed : IsListed l.cols l.equations l.rows l.front l.rays.rows.items (SeenKept l.i) l.made.items;
}
