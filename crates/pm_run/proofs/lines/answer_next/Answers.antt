use Rattle.std.proofs.Common.{inr}
use Rattle.pm_script.specs.Replies.{seen}
use Rattle.pm_run.proofs.Outcomes.{one_told}
use Rattle.pm_run.proofs.lines.answer_next.Goals as goal

pub returns-in-Some-clause-told : goal.returns-in-Some-clause-told
returns-in-Some-clause-told g c = one_told _ _ c.args.trace _ _ c.args.line.now (seen c.in-Some.reply) _ _ c.write_reply-written.result (rw c.in-Some.is at c.in_ok-answer_line.ensures.answers) c.write_reply-written.ensures.told

pub returns-in-Some-clause-hand : goal.returns-in-Some-clause-hand
returns-in-Some-clause-hand g c = λ h. inr (inr (seen c.in-Some.reply, rw c.in-Some.is at c.in_ok-answer_line.ensures.answers))
