use Rattle.pm_geom.proofs.Taken.{cut_more, not_cut}
use Rattle.pm_incidence.proofs.facets.is_cut_out.Goals as goal
use Rattle.pm_vector.specs.WideInts.{value_of}
use Rattle.std.proofs.Common.{IsTrue, arith, false, sym, true≢false}
use Rattle.std.proofs.lemmas.Int.{ints}
use lib.IntN.{negsuc, pos, ℤ}
use lib.Signed.{◌<ℤ◌, ◌≤ℤ◌}

up : (z : ℤ) → (z <ℤ pos 0 → IsTrue false) → pos 0 ≤ℤ z
up (pos n) k = omega (arith, ints)
up (negsuc n) k = absurd (true≢false (sym (k (omega (arith, ints)))))

pub returns-then-is_negative-clause-inside : goal.returns-then-is_negative-clause-inside
returns-then-is_negative-clause-inside c =
    not_cut c.args.rows.now c.args.ray.now c.loop-row.row-index c.row-item.result c.loop-row-test.true c.row-item.is (value_of c.in_ok-value.value) c.in_ok-value.ensures.value (c.is_negative.ensures.0 c.if-is_negative.true)

pub loop-row-preserved : goal.loop-row-preserved
loop-row-preserved c =
    cut_more c.args.rows.now c.args.ray.now c.loop-row.row-index c.row-item.result c.loop-row-test.true c.row-item.is (value_of c.in_ok-value.value) c.in_ok-value.ensures.value (up (value_of c.in_ok-value.value) c.if-is_negative.ensures.1) c.loop-row.invariant
