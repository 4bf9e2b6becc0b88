-- The matrix so far is that of the rays so far; its column count is the one of all rows.
use Rattle.pm_clients_geom.proofs.rays.matrix_of_rays.Given as goal
use Rattle.pm_types.specs.Parts.{cols_over}
use Rattle.pm_clients_geom.specs.Rays.{ArePutRays}
use Rattle.pm_types.specs.Views.{ratios}
use Rattle.std.proofs.Common.{map, take, ◌≡◌}

abbrev pub invariant-loop-row : goal.invariant-loop-row
invariant-loop-row l = record {
  each : ArePutRays l.of l.matrix.rows (take l.row-index l.rows);
  cols : l.matrix.cols ≡ cols_over l.cols (map ratios l.rows);
}
