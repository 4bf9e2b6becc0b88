-- the rows of the places that are left follow
use Rattle.pm_incidence.specs.FromSets.{rows_at}
use Rattle.pm_incidence.proofs.from_sets.add_rows_at.Given as goal
use Rattle.std.proofs.Common.{drop, ◌++◌, ◌≡◌}

abbrev pub invariant-loop-place : goal.invariant-loop-place
invariant-loop-place l = l.made.items ++ rows_at l.rows (drop l.place-index l.set) ≡ l.fn.others.items ++ rows_at l.rows l.set
