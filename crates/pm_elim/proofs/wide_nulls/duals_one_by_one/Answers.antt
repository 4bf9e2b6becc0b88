use Rattle.pm_elim.proofs.DualLaws.{duals_more}
use Rattle.pm_elim.proofs.wide_nulls.duals_one_by_one.Goals as goal
use Rattle.std.proofs.Common.{ap, arith, length, ◌+◌, ◌≡◌, ◌∙◌, ℕ}
use Rattle.std.proofs.lemmas.List.{length_push}

pub loop-j-preserved : goal.loop-j-preserved
loop-j-preserved c =
    let so_far = c.loop-j.invariant.as_many in
    rw c.in_ok-push.ensures.items (record {
      as_many = length_push c.loop-j.duals.items c.in_ok-dual.dual ∙ ap (λ (k : ℕ). k + 1) so_far;
      each = duals_more c.args.cols c.args.rows.now c.in_ok-null.null.pivots.items c.loop-j.duals.items c.in_ok-dual.dual c.loop-j.j so_far c.loop-j.invariant.each c.in_ok-dual.ensures.dual;
    })

pub returns-clause-dual : goal.returns-clause-dual
returns-clause-dual c =
    let so_far = c.loop-j.invariant.as_many in
    let all : c.loop-j.j ≡ length c.args.rows.now = omega arith in
    record {
      null = c.in_ok-null.null.rows.items;
      pivots = c.in_ok-null.null.pivots.items;
      null_basis = c.in_ok-null.ensures.null;
      as_many = so_far ∙ all;
      each = λ j l. c.loop-j.invariant.each j (omega arith);
    }
