use Rattle.pm_simplex.proofs.Senses.{turned_objective}
use Rattle.pm_simplex.proofs.sense.Sense.objective.Goals as goal
use Rattle.pm_simplex.specs.Senses.{ratio_in}
use Rattle.std.proofs.Common.{ap, arith, length, map, take, ◌∙◌, ◌≡◌}
use Rattle.std.proofs.Math.Seq.{take-length}

pub returns : goal.returns
returns c =
    let end : c.loop-entry.entry-index ≡ length c.args.objective.now = omega arith in
    c.loop-entry.invariant ∙ ap (λ n. map (ratio_in c.args.self) (take n c.args.objective.now)) end ∙ ap (map (ratio_in c.args.self)) (take-length c.args.objective.now) ∙ turned_objective c.args.self c.args.objective.now
