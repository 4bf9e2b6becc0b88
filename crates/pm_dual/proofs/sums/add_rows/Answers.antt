use Rattle.pm_vector.specs.Cones.{combination}
use Rattle.pm_vector.specs.Rows.{Row, Same, entry, plus, times}
use Rattle.pm_vector.specs.Bases.{row_at}
use Rattle.pm_dual.proofs.RowSums.{end_sum, next_sum}
use Rattle.pm_dual.proofs.sums.add_rows.Goals as goal
use Rattle.std.proofs.Common.{[], arith, length, of_z, refl, rules, subst, to_z, ℤ, ◌≡◌, ◌∙◌}
use Rattle.std.proofs.lemmas.Int.{to_z-of_z}
use Rattle.std.proofs.lemmas.List.{get_or_read}
use mir.Syntax.{w128}

pub loop-i-preserved : goal.loop-i-preserved
loop-i-preserved c =
    let t = entry c.args.times.now c.loop-i.i in
    let n : length c.args.times.now ≡ length c.args.rows.now = c.requires.as_many in
    let read : to_z w128 (of_z w128 t) ≡ t = to_z-of_z w128 t (search rules) in
    let row = get_or_read c.args.rows.now c.loop-i.i c.index-rows-i.result c.loop-i-test.true c.index-rows-i.is [] in
    record {
      cols = c.add_times.ensures.cols ∙ c.loop-i.invariant.cols;
      sum = next_sum c.loop-i.sum c.add_times.new.sum (plus c.args.sum.now (combination c.args.times.now c.args.rows.now)) c.args.times.now c.args.rows.now c.loop-i.i (omega arith) c.loop-i-test.true
          (subst (λ (z : ℤ). Same c.add_times.new.sum (plus c.loop-i.sum (times z (row_at c.args.rows.now c.loop-i.i)))) read
          (subst (λ (x : Row). Same c.add_times.new.sum (plus c.loop-i.sum (times (to_z w128 (of_z w128 t)) x))) row (c.if-not-add_times.ensures.sum refl))) c.loop-i.invariant.sum;
    }

pub returns-clause-sum : goal.returns-clause-sum
returns-clause-sum c e =
    end_sum c.loop-i.sum (plus c.args.sum.now (combination c.args.times.now c.args.rows.now)) c.args.times.now c.args.rows.now c.loop-i.i (let n : length c.args.times.now ≡ length c.args.rows.now = c.requires.as_many in omega arith) c.loop-i.invariant.sum
