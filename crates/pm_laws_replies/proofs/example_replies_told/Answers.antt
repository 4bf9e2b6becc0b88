use Rattle.pm_laws_replies.proofs.Examples.{replies_are_told}
use Rattle.pm_laws_replies.proofs.example_replies_told.Goals as goal

pub returns : goal.returns
returns c = replies_are_told
