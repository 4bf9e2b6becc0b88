use Rattle.pm_geom.specs.Cones.{CutOut}
use Rattle.pm_refine.proofs.products.is_cut_out.Given as goal
use Rattle.std.proofs.Common.{take}

abbrev pub invariant-loop-row : goal.invariant-loop-row
invariant-loop-row l = CutOut (take l.row-index l.rows) l.ray
