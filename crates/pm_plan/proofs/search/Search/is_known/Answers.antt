use Rattle.std.proofs.Common.{Option, subst}
use Rattle.std.specs.Prelude.{IsTrue, IsSomeAnd, ◌↔◌}
use Rattle.pm_weights.specs.declared.Cost.{Cost}
use Rattle.pm_weights.specs.Weights.{IsAtMost}
use Rattle.pm_plan.proofs.search.Search.is_known.Goals as goal

pub returns-in-Some : goal.returns-in-Some
returns-in-Some c =
    subst (λ (known : Option Cost). IsTrue c.is_at_most.result ↔ IsSomeAnd known (λ cost. IsAtMost cost c.args.row.now.cost)) c.in-Some.ensures.value c.is_at_most.ensures
