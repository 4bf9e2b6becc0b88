use Rattle.pm_laws_complete.proofs.Untouched.{untouched_bars_nothing}
use Rattle.pm_laws_complete.proofs.law_untouched_bars_nothing.Goals as goal

pub returns : goal.returns
returns c = untouched_bars_nothing
