use Rattle.std.proofs.Common.{List, ℕ, subst, sym}
use Rattle.std.specs.Prelude.{IfOk}
use Rattle.std.proofs.lemmas.Bool.{iff_false}
use Rattle.pm_printed.specs.Readings.{ReadAs}
use Rattle.pm_printed.proofs.Tables.{refused_with_end, unread_head, unread_without_line}
use Rattle.pm_printed.proofs.read.read.Goals as goal

pub returns-in_default : goal.returns-in_default
returns-in_default c = unread_without_line c.args.rules.now c.args.text.now (rw c.in_default.is at c.cut_line.ensures.none)

pub returns-then-is_refused_line : goal.returns-then-is_refused_line
returns-then-is_refused_line c =
    let cut = rw c.in-Some.is at c.cut_line.ensures.some in
    let at = refused_with_end c.args.text.now c.in-Some.line.now c.in-Some.behind.now cut.1 (c.is_refused_line.ensures.0 c.if-is_refused_line.true) in
    subst (λ (t : List ℕ). IfOk c.refusal_of.result (ReadAs c.args.rules.now t)) (sym at) c.refusal_of.ensures

pub returns-in-None : goal.returns-in-None
returns-in-None c =
    let cut = rw c.in-Some.is at c.cut_line.ensures.some in
    unread_head c.args.rules.now c.args.text.now c.in-Some.line.now c.in-Some.behind.now cut.0 cut.1 (rw c.in-None.is at c.in_ok-weight.ensures.none)
    (λ same. iff_false c.is_refused_line.ensures c.if-is_refused_line.false same)
