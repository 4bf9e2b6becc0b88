use Rattle.std.proofs.Common.{◌≡◌, List, map, subst}
use Rattle.std.specs.Prelude.{IfOk}
use Rattle.pm_rules.specs.declared.rule.Rule.{Rule}
use Rattle.pm_rules.specs.declared.table.TableRow.{TableRow}
use Rattle.pm_printed.specs.declared.print.Told.{Told}
use Rattle.pm_printed.specs.Judging.{JudgesRefusal}
use Rattle.pm_printed.specs.Judging.Judges.{of_plan, unread}
use Rattle.pm_printed.specs.Readings.{seen}
use Rattle.pm_printed.specs.Printed.{IsRefusalText, IsUnread}
use Rattle.pm_rules.specs.Books.{IsBook}
use Rattle.pm_printed.proofs.Unread.{unread_unprinted}
use Rattle.pm_printed.proofs.Verdicts.{refused}
use Rattle.pm_printed.proofs.judge.check.Goals as goal

pub returns-in-Plan : goal.returns-in-Plan
returns-in-Plan c =
    let read = rw c.rules-rules.ensures.value at (rw c.in-Plan.is at c.in_ok-weight.ensures) in
    let judged = rw c.rules-rules.ensures.value at (rw c.deref.ensures.value at (rw c.deref-in-Plan.ensures.value at c.judge_plan.ensures)) in
    of_plan c.in-Plan.weight c.in-Plan.chain.items c.in-Plan.rows.items read judged

pub returns-in-NoChain : goal.returns-in-NoChain
returns-in-NoChain c =
    let result = c.judge_refusal.result in
    let q = c.args.q.now in
    let told = map seen c.in-NoChain.told.items in
    let rows = c.in-NoChain.rows.items in
    let read : IsRefusalText c.rules-rules.result.now c.args.text.now told rows = rw c.in-NoChain.is at c.in_ok-weight.ensures in
    let by_rows : IfOk result (JudgesRefusal c.rules-rules.result.now q (map seen c.deref-in-NoChain.result.now) rows) =
    subst (λ (xs : List TableRow). IfOk result (JudgesRefusal c.rules-rules.result.now q (map seen c.deref-in-NoChain.result.now) xs)) c.deref-in-NoChain-2.ensures.value c.judge_refusal.ensures in
    let by_told : IfOk result (JudgesRefusal c.rules-rules.result.now q told rows) =
    subst (λ (ts : List Told). IfOk result (JudgesRefusal c.rules-rules.result.now q (map seen ts) rows)) c.deref-in-NoChain.ensures.value by_rows in
    refused result c.args.book.now q c.args.text.now told rows
    (subst (λ (rules : List Rule). IsRefusalText rules c.args.text.now told rows) c.rules-rules.ensures.value read)
    (subst (λ (rules : List Rule). IfOk result (JudgesRefusal rules q told rows)) c.rules-rules.ensures.value by_told)

pub returns-in-Unread : goal.returns-in-Unread
returns-in-Unread c =
    let first : IsUnread c.rules-rules.result.now c.args.text.now c.in-Unread.line = rw c.in-Unread.is at c.in_ok-weight.ensures in
    let by_book : IsUnread c.args.book.now c.args.text.now c.in-Unread.line = subst (λ (rules : List Rule). IsUnread rules c.args.text.now c.in-Unread.line) c.rules-rules.ensures.value first in
    let is : IsBook c.args.book.now = subst IsBook c.rules-rules.ensures.value c.rules-rules.ensures.book in
    unread c.in-Unread.line (unread_unprinted c.args.book.now c.args.text.now c.in-Unread.line is by_book) by_book
