use Rattle.std.proofs.Common.{◌≡◌, ◌∙◌, ap, arith, rules}
use Rattle.pm_props.specs.Sets.{union}
use Rattle.pm_printed.proofs.Chains.{stops_there, goes_there, reaches_there}
use Rattle.pm_printed.proofs.chain.followed.Goals as goal

pub returns-then-not-is_enabled_at-clause-next : goal.returns-then-not-is_enabled_at-clause-next
returns-then-not-is_enabled_at-clause-next c = λ l h.
    stops_there c.args.rules.now c.args.names c.args.barred.now c.args.held c.loop-k.set c.args.chain.now c.loop-k.k c.is_enabled_at.ensures c.if-not-is_enabled_at.true l (search rules) c.loop-k.invariant.reaches h

pub loop-k-preserved : goal.loop-k-preserved
loop-k-preserved c = record {
  follows = goes_there c.args.rules.now c.args.names c.args.barred.now c.args.held c.loop-k.set c.args.chain.now c.loop-k.k c.is_enabled_at.ensures c.if-not-is_enabled_at.false (omega (arith, c.loop-k-test.true))
      (search rules) c.loop-k.invariant.reaches c.loop-k.invariant.follows;
  reaches = c.union-set.ensures.value ∙ ap (union c.loop-k.set) c.targets_at.ensures
      ∙ reaches_there c.args.rules.now c.args.names c.args.barred.now c.args.held c.loop-k.set c.args.chain.now c.loop-k.k (omega (arith, c.loop-k-test.true)) (search rules) c.loop-k.invariant.reaches;
}
