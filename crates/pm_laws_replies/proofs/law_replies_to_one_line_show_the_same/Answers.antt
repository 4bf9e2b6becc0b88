use Rattle.pm_laws_replies.proofs.ToldApart.{one_reply}
use Rattle.pm_laws_replies.proofs.law_replies_to_one_line_show_the_same.Goals as goal

pub returns : goal.returns
returns c = one_reply
