use Rattle.pm_laws_normal_fans.proofs.IntersectionRows.{one_lineality}
use Rattle.pm_laws_normal_fans.proofs.law_one_lineality.Goals as goal

pub returns : goal.returns
returns c = one_lineality
