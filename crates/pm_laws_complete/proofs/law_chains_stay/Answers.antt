use Rattle.pm_laws_complete.proofs.LongerBooks.{chains_stay}
use Rattle.pm_laws_complete.proofs.law_chains_stay.Goals as goal

pub returns : goal.returns
returns c = chains_stay
