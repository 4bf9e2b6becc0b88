use Rattle.pm_laws_replies.proofs.Steps.{runs_reply}
use Rattle.pm_laws_replies.proofs.law_answers_are_replies.Goals as goal

pub returns : goal.returns
returns c = runs_reply
