use Rattle.pm_printed.specs.Printed.{IsBarred}
use Rattle.pm_printed.specs.Texts.{barred_line}
use Rattle.pm_printed.proofs.Lines.{none_by_line, none_without_line}
use Rattle.pm_printed.proofs.Unread.{barred_lacks_end}
use Rattle.pm_printed.proofs.read.next_barred.Goals as goal

pub returns-in_default-clause-none : goal.returns-in_default-clause-none
returns-in_default-clause-none c = none_without_line (IsBarred c.args.rules.now) (barred_line c.args.rules.now) c.args.text.now (rw c.in_default.is at c.cut_line.ensures.none)

pub returns-in_default-2-clause-none : goal.returns-in_default-2-clause-none
returns-in_default-2-clause-none c =
    let cut = rw c.in-Some.is at c.cut_line.ensures.some in
    none_by_line (IsBarred c.args.rules.now) (barred_line c.args.rules.now) c.args.text.now c.in-Some.line.now c.in-Some.behind.now (barred_lacks_end c.args.rules.now c.requires) cut.0 cut.1 (rw c.in_default-2.is at c.in_ok-told.ensures.none)
