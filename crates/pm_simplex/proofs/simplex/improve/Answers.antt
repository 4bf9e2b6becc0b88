use Rattle.pm_simplex.proofs.Steps.{measure_falls}
use Rattle.pm_simplex.proofs.simplex.improve.Goals as goal

pub steps-smaller : goal.steps-smaller
steps-smaller g c =
    measure_falls c.args.y g.system c.steps.d c.make_step.new.d c.args.z c.steps.invariant.state c.in_ok-make_step.ensures.state
    (rw c.in-Better.is at c.in_ok-make_step.ensures.better)
