-- The rules so far are enabled in turn, and this is what they reach.
use Rattle.std.specs.Prelude.{◌≡◌, take}
use Rattle.pm_rules.specs.Chains.{IsChain, reached}
use Rattle.pm_printed.proofs.chain.followed.Given as goal

abbrev pub invariant-loop-k : goal.invariant-loop-k
invariant-loop-k l = record {
  follows : IsChain l.rules l.names l.barred l.fn.held (take l.k l.chain);
  reaches : l.set ≡ reached l.rules l.fn.held (take l.k l.chain);
}
