-- The dimensions of the first cones, of whose rows no step of an elimination leaves the range, but for wide numbers.
use Rattle.pm_fan.proofs.dims.cone_dims.Given as goal
use Rattle.pm_fan.specs.Dimensions.{AreDimensions, NoConeEvidence}
use Rattle.std.proofs.Common.{false, map, take, ◌≡◌}

abbrev pub invariant-loop-set : goal.invariant-loop-set
invariant-loop-set l = record {
  dims : AreDimensions l.rays l.lineality (take l.set-index (map (λ s. s.items) l.set-items)) l.dims.items;
  never : l.wide ≡ false → NoConeEvidence l.cols l.rays l.lineality (take l.set-index (map (λ s. s.items) l.set-items));
}
