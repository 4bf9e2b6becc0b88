use Rattle.pm_geom.proofs.Taken.{not_null, null_more}
use Rattle.pm_incidence.proofs.facets.is_null.Goals as goal
use Rattle.pm_vector.specs.WideInts.{value_of}
use Rattle.std.proofs.Common.{false, true, ◌≡◌}

pub returns-then-not-is_zero-clause-inside : goal.returns-then-not-is_zero-clause-inside
returns-then-not-is_zero-clause-inside c =
    not_null c.args.equations.now c.args.ray.now c.loop-row.row-index c.row-item.result c.loop-row-test.true c.row-item.is (value_of c.in_ok-value.value) c.in_ok-value.ensures.value
    (λ h. let e : false ≡ true = rw c.if-not-is_zero.true at (c.is_zero.ensures.1 h) in cc)

pub loop-row-preserved : goal.loop-row-preserved
loop-row-preserved c =
    null_more c.args.equations.now c.args.ray.now c.loop-row.row-index c.row-item.result c.loop-row-test.true c.row-item.is (value_of c.in_ok-value.value) c.in_ok-value.ensures.value (c.is_zero.ensures.0 c.if-not-is_zero.false) c.loop-row.invariant
