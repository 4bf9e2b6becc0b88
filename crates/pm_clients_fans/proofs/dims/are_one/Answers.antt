use Rattle.pm_clients_fans.proofs.Shown.{as_first, none_one}
use Rattle.pm_clients_fans.proofs.dims.are_one.Goals as goal
use Rattle.std.proofs.Common.{refl}

pub returns-in-None : goal.returns-in-None
returns-in-None c = (λ y. none_one c.args.numbers.now c.in-None.ensures.value, λ h. refl)

pub returns-in-Some : goal.returns-in-Some
returns-in-Some c = (λ y. (c.in-Some.first.now, c.all_are.ensures.0 y), λ h. c.all_are.ensures.1 (as_first c.args.numbers.now c.in-Some.first.now c.in-Some.ensures.value h))
