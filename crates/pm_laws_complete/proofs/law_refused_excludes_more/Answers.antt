use Rattle.pm_laws_complete.proofs.Given.{refused_excludes_more}
use Rattle.pm_laws_complete.proofs.law_refused_excludes_more.Goals as goal

pub returns : goal.returns
returns c = refused_excludes_more
