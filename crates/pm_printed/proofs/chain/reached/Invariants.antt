-- What is reached so far is what the rest of the chain goes on from.
use Rattle.std.specs.Prelude.{◌≡◌, drop}
use Rattle.pm_rules.specs.Chains.{reached}
use Rattle.pm_printed.proofs.chain.reached.Given as goal

abbrev pub invariant-loop-id : goal.invariant-loop-id
invariant-loop-id l = reached l.rules l.set (drop l.id-index l.chain) ≡ reached l.rules l.fn.held l.chain
