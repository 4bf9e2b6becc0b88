use Rattle.pm_simplex.proofs.Steps.{measure}
use Rattle.pm_simplex.proofs.simplex.improve.Given as goal
use Rattle.pm_simplex.specs.Running.{IsArranged, IsState, IsWithoutHelp}

abbrev pub ghost-make_step : goal.ghost-make_step
ghost-make_step g a = g.system

abbrev pub invariant-steps : goal.invariant-steps
invariant-steps g l = record {
  state : IsState l.y g.system l.d l.z;
  arranged : IsArranged l.y l.d;
  without : IsWithoutHelp l.y l.initial.d → IsWithoutHelp l.y l.d;
}

abbrev pub decreases-steps : goal.decreases-steps
decreases-steps g l = measure l.y l.d l.z
