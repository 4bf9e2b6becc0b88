use Rattle.pm_geom.specs.FaceCounts.{binom}
use Rattle.pm_graph.proofs.Binomials.{binom_self, choose_fits, choose_step}
use Rattle.pm_graph.proofs.h_numbers.choose.Goals as goal
use Rattle.std.proofs.Common.{ap, arith, rules, sym, ◌+◌, ◌≡◌, ◌∙◌}

pub loop-step-init : goal.loop-step-init
loop-step-init c = sym (let e : c.args.k + 0 ≡ c.args.k = omega arith in ap (λ n. binom n c.args.k) e ∙ binom_self c.args.k)

pub overflow_mul-count : goal.overflow_mul-count
overflow_mul-count c = let l = choose_fits c.args.k c.loop-step.step c.loop-step.count c.args.n c.loop-step.invariant (omega arith) c.requires.few in search rules

pub loop-step-preserved : goal.loop-step-preserved
loop-step-preserved c = choose_step c.args.k c.loop-step.step c.loop-step.count c.loop-step.invariant
