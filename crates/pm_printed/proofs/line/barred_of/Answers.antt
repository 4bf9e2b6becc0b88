use Rattle.std.proofs.Common.{subst, sym}
use Rattle.std.specs.Str.{IsUtf8}
use Rattle.pm_printed.specs.Texts.{barred_line}
use Rattle.pm_printed.proofs.Plain.{plain_is_text}
use Rattle.pm_printed.proofs.Unread.{barred_is_plain}
use Rattle.pm_printed.proofs.line.barred_of.Goals as goal

pub returns-in_default-clause-none : goal.returns-in_default-clause-none
returns-in_default-clause-none c = λ x is e. c.in_default.ensures.cases.0 (subst IsUtf8 (sym e) (plain_is_text (barred_line c.args.rules.now x) (barred_is_plain c.args.rules.now c.requires x is)))
