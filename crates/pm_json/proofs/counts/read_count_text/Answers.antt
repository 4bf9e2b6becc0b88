use Rattle.pm_json.proofs.CountTurns.{count_read, count_refused}
use Rattle.pm_json.proofs.counts.read_count_text.Goals as goal
use Rattle.std.proofs.Common.{sym, ◌∙◌}

pub returns-in-Ok-clause-value : goal.returns-in-Ok-clause-value
returns-in-Ok-clause-value c = count_read c.args.text.now c.in-Ok.k (sym c.begins_with_plus.ensures ∙ c.if-begins_with_plus.false) c.in-Ok.ensures.value.0.0 c.in-Ok.ensures.value.0.1

pub returns-in-Err-clause-value : goal.returns-in-Err-clause-value
returns-in-Err-clause-value c = count_refused c.args.text.now c.in-Err.ensures.value.0
