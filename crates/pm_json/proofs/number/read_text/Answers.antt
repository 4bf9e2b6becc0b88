use Rattle.pm_json.proofs.FractionTexts.{text_read, text_refused}
use Rattle.pm_json.proofs.number.read_text.Goals as goal

pub returns-in-Ok : goal.returns-in-Ok
returns-in-Ok c = text_read c.args.text.now c.in-Ok.fraction c.in-Ok.ensures.ok

pub returns-in-Err : goal.returns-in-Err
returns-in-Err c = text_refused c.args.text.now c.in-Err.field-0 c.in-Err.ensures.err
