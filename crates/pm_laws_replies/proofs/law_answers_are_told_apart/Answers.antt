use Rattle.pm_laws_replies.proofs.AnswersApart.{runs_are_told_apart}
use Rattle.pm_laws_replies.proofs.law_answers_are_told_apart.Goals as goal

pub returns : goal.returns
returns c = runs_are_told_apart
