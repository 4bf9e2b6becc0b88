use Rattle.pm_fraction.specs.Fractions.{ratio_of}
use Rattle.pm_fraction.specs.Matrices.{IsFraction}
use Rattle.pm_simplex.proofs.Pushed.{count_pushed, pushed}
use Rattle.pm_simplex.proofs.StartRows.{start_row_from}
use Rattle.pm_simplex.proofs.start.start_row.Goals as goal
use Rattle.pm_simplex.specs.Starts.{body_at}
use Rattle.std.proofs.Common.{arith, pos, ◌≡◌, ◌∙◌}

pub loop-k-preserved : goal.loop-k-preserved
loop-k-preserved c = record {
  count = count_pushed c.loop-k.row.items c.push.new.self.items c.body.result c.loop-k.k c.in_ok-push.ensures.items c.loop-k.invariant.count;
  entries = pushed (λ k r. r ≡ body_at c.args.y c.args.a.now c.args.b.now c.args.c.now c.args.i k) (ratio_of (pos 0) (pos 1)) c.loop-k.row.items c.push.new.self.items c.body.result c.loop-k.k c.in_ok-push.ensures.items c.loop-k.invariant.count c.loop-k.invariant.entries c.body.ensures.value;
  fractions = pushed (λ k r. IsFraction r) (ratio_of (pos 0) (pos 1)) c.loop-k.row.items c.push.new.self.items c.body.result c.loop-k.k c.in_ok-push.ensures.items c.loop-k.invariant.count c.loop-k.invariant.fractions c.body.ensures.fraction;
}

pub returns : goal.returns
returns c =
    let all : c.loop-k.k ≡ c.args.y.cols = omega arith in
    start_row_from c.args.y c.args.a.now c.args.b.now c.args.c.now c.args.i c.loop-k.row.items c.push-2.new.self.items c.help.result (c.loop-k.invariant.count ∙ all)
    (λ k l. c.loop-k.invariant.entries k (omega arith)) (λ k l. c.loop-k.invariant.fractions k (omega arith)) c.in_ok-push-2.ensures.items c.help.ensures.value c.help.ensures.fraction
