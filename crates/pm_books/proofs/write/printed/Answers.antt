use Rattle.std.proofs.Common.{string_bytes}
use Rattle.pm_books.specs.Writing.{text_of}
use Rattle.pm_books.proofs.Printed.{line_printed, all_printed}
use Rattle.pm_books.proofs.write.printed.Goals as goal

pub loop-rule-preserved : goal.loop-rule-preserved
loop-rule-preserved c =
    line_printed (string_bytes c.loop-rule.text) (string_bytes c.push_line.new.text) (text_of c.args.rules.now) c.args.rules.now c.rule-item.result c.loop-rule.rule-index
    c.loop-rule-test.true c.rule-item.is c.in_ok-push_line.ensures c.loop-rule.invariant

pub returns : goal.returns
returns c = all_printed (string_bytes c.loop-rule.text) (text_of c.args.rules.now) c.args.rules.now c.loop-rule.rule-index c.loop-rule-test.false c.loop-rule.invariant
