use Rattle.std.proofs.Common.{sym, ◌∙◌}
use Rattle.pm_json.proofs.Readings.{stated_last-fault, stated_last-more, stated_last-ok}
use Rattle.pm_json.proofs.sets.read_last.Goals as goal
use Rattle.serde_json.specs.View.{view}

pub returns-then-not-is_empty-clause-fault : goal.returns-then-not-is_empty-clause-fault
returns-then-not-is_empty-clause-fault c = stated_last-more (view c.args.v.now) c.args.behind.now (sym c.is_empty.ensures ∙ c.if-not-is_empty.true)

pub returns-clause-ok : goal.returns-clause-ok
returns-clause-ok c = stated_last-ok c.read_stated.result (view c.args.v.now) c.args.behind.now (sym c.is_empty.ensures ∙ c.if-not-is_empty.false) c.read_stated.ensures

pub returns-clause-fault : goal.returns-clause-fault
returns-clause-fault c = stated_last-fault c.read_stated.result (view c.args.v.now) c.args.behind.now (sym c.is_empty.ensures ∙ c.if-not-is_empty.false) c.read_stated.ensures
