use Rattle.pm_laws_complete.proofs.Objects.{some_chain_leads}
use Rattle.pm_laws_complete.proofs.law_some_chain_leads.Goals as goal

pub returns : goal.returns
returns c = some_chain_leads
