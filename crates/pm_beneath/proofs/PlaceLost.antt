-- Where a run and a placing are given up for a number out of the range.
use Rattle.pm_beneath.specs.Placed.{IfPlaceWide, fail_of_engine}
use Rattle.pm_beneath.specs.PlacedRuns.{IsPlaceFailOf}
use Rattle.pm_beneath.specs.Runs.{IfRunWide}
use Rattle.pm_beneath.specs.declared.fails.PlaceFail.{PlaceFail}
use Rattle.pm_beneath.specs.declared.fails.PlaceFail.TheVariants.{Many, Memory, Wide}
use Rattle.pm_beneath.specs.declared.run.RunFail.{RunFail}
use Rattle.pm_beneath.specs.declared.run.RunFail.TheVariants.{Crowd, Engine}
use Rattle.pm_dd.proofs.Outcomes.{elimination_lost, wide_weaker}
use Rattle.pm_dd.specs.Lost.{IfWide}
use Rattle.pm_dd.specs.Refusals.{fail_of_elimination}
use Rattle.pm_dd.specs.declared.fails.DdFail.{DdFail}
use Rattle.pm_dd.specs.declared.fails.DdFail.TheVariants as dd
use Rattle.pm_elim.specs.Refusals.{IfWide as IfWideElimination}
use Rattle.pm_elim.specs.declared.evidence.ElimFail.{ElimFail}
use Rattle.std.specs.Prelude.{ℕ, List}

-- ---- runs
pub run_weaker : (f : RunFail) (Q R : Type 0) → (Q → R) → IfRunWide f Q → IfRunWide f R
run_weaker (Engine d) Q R g h = wide_weaker d Q R g h
run_weaker (Crowd f cells) Q R g h = tt

-- ---- placings
pub engine_lost : (f : DdFail) (Q : Type 0) → IfWide f Q → IfPlaceWide (fail_of_engine f) Q
engine_lost (dd.Wide e) Q h = h
engine_lost (dd.Many e) Q h = tt
engine_lost dd.Memory Q h = tt

pub elimination_weaker : (f : ElimFail) (Q R : Type 0) → (Q → R) → IfWideElimination f (λ _. Q) → IfPlaceWide (fail_of_engine (fail_of_elimination f)) R
elimination_weaker f Q R g h = engine_lost (fail_of_elimination f) R (wide_weaker (fail_of_elimination f) Q R g (elimination_lost f Q h))

pub place_lost : (many lead : ℕ) (places : List ℕ) (f : RunFail) (p : PlaceFail) (Q R : Type 0) → (Q → R) → IsPlaceFailOf many lead places f p → IfRunWide f Q → IfPlaceWide p R
place_lost many lead places (Engine d) p Q R g e h = rw e (engine_lost d R (wide_weaker d Q R g h))
place_lost many lead places (Crowd f cells) (Wide e) Q R g h k = absurd h
place_lost many lead places (Crowd f cells) (Many e) Q R g h k = tt
place_lost many lead places (Crowd f cells) Memory Q R g h k = tt
