use Rattle.pm_laws_replies.proofs.ToldApart.{told_apart}
use Rattle.pm_laws_replies.proofs.law_replies_are_told_apart.Goals as goal

pub returns : goal.returns
returns c = told_apart
