use Rattle.pm_laws_complete.proofs.Coming.{standard_chain_leads_now}
use Rattle.pm_laws_complete.proofs.law_standard_chain_leads_now.Goals as goal

pub returns : goal.returns
returns c = standard_chain_leads_now
