-- The replies of two runs can be told apart, as those that their commands may have can.
use Rattle.pm_command.proofs.Grammar.{read_is_spoken}
use Rattle.pm_laws_replies.proofs.ToldApart.{told_apart}
use Rattle.pm_laws_replies.proofs.Steps.{runs_reply}
use Rattle.pm_laws_replies.specs.Scripts.{LinesAreSpoken, AnswersAreToldApart}
use Rattle.pm_laws_replies.specs.Told.{RepliesAreToldApart}

pub runs_told_apart : RepliesAreToldApart → AnswersAreToldApart
runs_told_apart told book trace lines old new start end replies others labels h k a b e =
    told book trace lines replies others (runs_reply book old new lines replies labels h a) (runs_reply book start end lines others labels k b) e

pub runs_are_told_apart : AnswersAreToldApart
runs_are_told_apart = runs_told_apart told_apart

pub lines_are_spoken : LinesAreSpoken
lines_are_spoken text command e = (text, read_is_spoken text command e)
