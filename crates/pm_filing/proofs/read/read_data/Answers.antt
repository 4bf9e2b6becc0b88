-- UTF-8 is read as JSON, and nothing else is.
use Rattle.std.proofs.Common.{ap, arith, ◌∙◌}
use Rattle.pm_filing.specs.FileParts.{not_json, or_else_fault}
use Rattle.pm_filing.proofs.DataRead.{data-bad, data-read, if_ok}
use Rattle.pm_filing.proofs.read.read_data.Goals as goal

pub returns-in_default-clause-fault : goal.returns-in_default-clause-fault
returns-in_default-clause-fault c = λ other. data-bad c.args.bytes.now (omega (arith, c.if-bytes-gt-MOST_FILE_BYTES.false)) c.in_default.ensures.cases.0

pub returns-clause-ok : goal.returns-clause-ok
returns-clause-ok c =
    let text = data-read c.args.bytes.now c.in-Ok.text.now (omega (arith, c.if-bytes-gt-MOST_FILE_BYTES.false)) c.in-Ok.ensures.cases.1 c.in-Ok.ensures.cases.0 in
    if_ok c.read_json.result (λ json h. text ∙ ap (or_else_fault not_json) h) c.read_json.ensures.ok
