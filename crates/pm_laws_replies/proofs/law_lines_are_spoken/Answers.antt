use Rattle.pm_laws_replies.proofs.AnswersApart.{lines_are_spoken}
use Rattle.pm_laws_replies.proofs.law_lines_are_spoken.Goals as goal

pub returns : goal.returns
returns c = lines_are_spoken
