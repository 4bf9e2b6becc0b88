use Rattle.std.proofs.Common.{subst, sym}
use Rattle.std.specs.Str.{IsUtf8}
use Rattle.pm_printed.specs.Texts.{row_line}
use Rattle.pm_printed.proofs.Plain.{plain_is_text}
use Rattle.pm_printed.proofs.Unread.{row_is_plain}
use Rattle.pm_printed.proofs.line.row_of.Goals as goal

pub returns-in_default-clause-none : goal.returns-in_default-clause-none
returns-in_default-clause-none c = λ x is e. c.in_default.ensures.cases.0 (subst IsUtf8 (sym e) (plain_is_text (row_line x) (row_is_plain x is)))
