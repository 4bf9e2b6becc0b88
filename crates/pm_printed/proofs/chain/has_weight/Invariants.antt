-- The sums so far, and those of what is left, are the sums of the chain.
use Rattle.std.specs.Prelude.{◌≡◌, ◌+◌, ◌*◌, ◌≤◌, drop, sum_by}
use Rattle.pm_rules.specs.Chains.{weight_at}
use Rattle.pm_printed.proofs.chain.has_weight.Given as goal

abbrev pub invariant-loop-id : goal.invariant-loop-id
invariant-loop-id l = record {
  class : l.class + sum_by (λ id. (weight_at l.rules id).class) (drop l.id-index l.chain) ≡ sum_by (λ id. (weight_at l.rules id).class) l.chain;
  minor : l.minor + sum_by (λ id. (weight_at l.rules id).minor) (drop l.id-index l.chain) ≡ sum_by (λ id. (weight_at l.rules id).minor) l.chain;
  class_fits : l.class ≤ 4294967296 * l.id-index;
  minor_fits : l.minor ≤ 4294967296 * l.id-index;
}
