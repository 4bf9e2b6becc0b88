use Rattle.std.proofs.Common.{◌≡◌, ◌+◌, ◌<◌, arith, length, rules, subst}
use Rattle.pm_printed.specs.Printed.{IsUnread}
use Rattle.pm_printed.specs.Texts.{head_text}
use Rattle.std.specs.Prelude.{◌++◌}
use Rattle.pm_printed.proofs.Tables.{not_empty, plan_unread}
use Rattle.pm_printed.proofs.read.plan_of.Goals as goal

-- the line behind the rows
pub returns-else-is_empty : goal.returns-else-is_empty
returns-else-is_empty c =
    let first = rw c.in-Ok.is at c.rules_of.ensures in
    let second = rw c.in-Ok-rows_of.is at c.rows_of.ensures in
    let chain = c.in-Ok.found.0.items in
    let rows = c.in-Ok-rows_of.found.0.items in
    let rest = c.in-Ok-rows_of.found.1.now in
    let some : 0 < length rest = not_empty c.is_empty.result (length rest) c.is_empty.ensures c.if-is_empty.false in
    let as_many : c.len.result ≡ length chain = search rules in
    let as_many_rows : c.len-else-is_empty.result ≡ length rows = search rules in
    let at : 2 + length chain + length rows ≡ 2 + c.len.result + c.len-else-is_empty.result = omega arith in
    subst (λ n. IsUnread c.args.rules.now (head_text c.args.weight ++ c.args.text.now) n) at
    (plan_unread c.args.rules.now c.args.weight chain rows c.args.text.now c.in-Ok.found.1.now rest c.requires.cost first second some)
