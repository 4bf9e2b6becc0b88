use Rattle.pm_script.proofs.ReplyExamples.{replies_are_read}
use Rattle.pm_script.proofs.examples.example_replies.Goals as goal

pub returns : goal.returns
returns c = replies_are_read
