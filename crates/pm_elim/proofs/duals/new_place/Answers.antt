use Rattle.pm_vector.specs.Bases.{column}
use Rattle.pm_elim.proofs.duals.new_place.Goals as goal
use Rattle.std.proofs.Common.{below_more, rules, ℕ}
use Rattle.std.specs.Prelude.{Contains}

pub loop-i-preserved : goal.loop-i-preserved
loop-i-preserved c =
    let here : Contains c.args.old.now (column c.args.columns.now c.loop-i.i) = search rules in
    below_more (λ (k : ℕ). Contains c.args.old.now (column c.args.columns.now k)) c.loop-i.i c.loop-i.invariant here
