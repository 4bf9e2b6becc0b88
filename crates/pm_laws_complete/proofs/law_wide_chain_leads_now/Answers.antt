use Rattle.pm_laws_complete.proofs.LongerBooks.{wide_chain_leads_now}
use Rattle.pm_laws_complete.proofs.law_wide_chain_leads_now.Goals as goal

pub returns : goal.returns
returns c = wide_chain_leads_now
