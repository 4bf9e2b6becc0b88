use Rattle.pm_run.proofs.Outcomes.{came}
use Rattle.pm_run.proofs.run.run_script.Goals as goal

pub returns-clause-run : goal.returns-clause-run
returns-clause-run g c =
    came _ c.args.book c.args.trace c.new-session.result c.answer_lines-answered.new.session _ _ _ _ _ _ _ _ _ _ c.answer_lines-answered.result
    c.new-session.ensures.book c.new-session.ensures.none c.new-session.ensures.names c.answer_lines-answered.ensures.outcome
