use Rattle.pm_laws_complete.proofs.Given.{given_leads_now}
use Rattle.pm_laws_complete.proofs.law_given_leads_now.Goals as goal

pub returns : goal.returns
returns c = given_leads_now
