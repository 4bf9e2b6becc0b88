-- The lines, and the rays of the first places.
use Rattle.pm_fan.proofs.dims.cone_rows.Given as goal
use Rattle.pm_fan.specs.Dimensions.{cone_rows}
use Rattle.std.proofs.Common.{take, ◌≡◌}

abbrev pub invariant-loop-place : goal.invariant-loop-place
invariant-loop-place l = l.rows.items ≡ cone_rows l.rays l.lineality (take l.place-index l.set)
