use Rattle.std.proofs.Common.{◌≡◌, ◌∙◌, ◌+◌, ◌<◌, arith, length, map, rules, subst}
use Rattle.std.specs.Prelude.{◌++◌}
use Rattle.std.proofs.lemmas.List.{length-map}
use Rattle.pm_printed.specs.Printed.{IsUnread}
use Rattle.pm_printed.specs.Readings.{seen}
use Rattle.pm_printed.specs.Texts.{refused_text}
use Rattle.pm_printed.proofs.Tables.{not_empty, refusal_unread}
use Rattle.pm_printed.proofs.read.refusal_of.Goals as goal

-- the line behind the rows
pub returns-else-is_empty : goal.returns-else-is_empty
returns-else-is_empty c =
    let first = rw c.in-Ok.is at c.all_barred_of.ensures in
    let second = rw c.in-Ok-rows_of.is at c.rows_of.ensures in
    let told = c.in-Ok.found.0.items in
    let rows = c.in-Ok-rows_of.found.0.items in
    let rest = c.in-Ok-rows_of.found.1.now in
    let some : 0 < length rest = not_empty c.is_empty.result (length rest) c.is_empty.ensures c.if-is_empty.false in
    let as_many : c.len.result ≡ length told = search rules in
    let as_many_rows : c.len-else-is_empty.result ≡ length rows = search rules in
    let at : 2 + length (map seen told) + length rows ≡ 2 + c.len.result + c.len-else-is_empty.result = omega (arith, length-map told seen) in
    subst (λ n. IsUnread c.args.rules.now (refused_text ++ c.args.text.now) n) at
    (refusal_unread c.args.rules.now (map seen told) rows c.args.text.now c.in-Ok.found.1.now rest first second some)
