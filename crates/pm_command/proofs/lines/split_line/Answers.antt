use Rattle.std.proofs.Common.{add-one}
use Rattle.std.proofs.lemmas.List.{take_rest}
use Rattle.pm_command.proofs.Breaks.{lines_of-line, lines_of-last_rest}
use Rattle.pm_command.proofs.lines.split_line.Goals as goal

pub returns-then-end-bytes-clause-lines : goal.returns-then-end-bytes-clause-lines
returns-then-end-bytes-clause-lines c =
    rw (take_rest, add-one) (lines_of-line c.first_break-end.result c.args.bytes.now c.if-end-bytes.true c.first_break-end.ensures.before
    (c.first_break-end.ensures.found c.if-end-bytes.true))

pub returns-else-end-bytes-clause-lines : goal.returns-else-end-bytes-clause-lines
returns-else-end-bytes-clause-lines c =
    rw take_rest (lines_of-last_rest c.first_break-end.result c.args.bytes.now c.requires c.if-end-bytes.false c.first_break-end.ensures.before)
