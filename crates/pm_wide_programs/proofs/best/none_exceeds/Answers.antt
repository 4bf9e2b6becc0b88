use Rattle.pm_dual.proofs.RowSums.{all_places}
use Rattle.pm_vector.specs.Bases.{row_at}
use Rattle.pm_vector.specs.WideInts.{value_of}
use Rattle.pm_wide_programs.proofs.Slacks.{read_up}
use Rattle.pm_wide_programs.proofs.best.none_exceeds.Goals as goal
use Rattle.pm_wide_programs.specs.Slacks.{slack_of}
use Rattle.std.proofs.Common.{[], arith, below_more, pos, sym, ◌∙◌, ◌≡◌}
use Rattle.std.proofs.lemmas.List.{get_or_read}
use lib.Signed.{◌≤ℤ◌}

pub loop-i-preserved : goal.loop-i-preserved
loop-i-preserved c =
    let row : c.index-rays-i.result ≡ row_at c.args.rays.now c.loop-i.i = get_or_read c.args.rays.now c.loop-i.i c.index-rays-i.result c.loop-i-test.true c.index-rays-i.is [] in
    below_more (λ k. pos 0 ≤ℤ slack_of c.args.objective.now.times c.args.objective.now.row c.args.value (row_at c.args.rays.now k)) c.loop-i.i c.loop-i.invariant
    (read_up c.args.objective.now.times c.args.objective.now.row c.args.value (row_at c.args.rays.now c.loop-i.i) c.index-rays-i.result (value_of c.slack.result) row c.slack.ensures (λ n. sym c.if-is_negative.false ∙ c.is_negative.ensures.1 n))

pub returns : goal.returns
returns c e = all_places (λ x. pos 0 ≤ℤ slack_of c.args.objective.now.times c.args.objective.now.row c.args.value x) c.args.rays.now (λ i li. c.loop-i.invariant i (omega arith))
