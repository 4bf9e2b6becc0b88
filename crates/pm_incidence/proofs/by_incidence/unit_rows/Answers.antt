use Rattle.pm_bits.proofs.Counts.{range_with_len-add}
use Rattle.pm_vector.specs.Evidence.{unit}
use Rattle.pm_incidence.proofs.by_incidence.unit_rows.Goals as goal
use Rattle.std.proofs.Common.{arith, refl, ◌+◌, ◌≡◌}
use Rattle.std.proofs.lemmas.List.{map-append}
use Rattle.std.specs.List.{range_with_len}

pub loop-column-preserved : goal.loop-column-preserved
loop-column-preserved c =
    let k = c.loop-column.column in
    let first : 0 + k ≡ k = omega arith in
    rw (c.in_ok-push.ensures.items, c.loop-column.invariant, c.in_ok-unit_row.ensures, range_with_len-add 0 k 1, map-append (unit c.args.cols) (range_with_len 0 k) (range_with_len (0 + k) 1), first) refl
