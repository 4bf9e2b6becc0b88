-- The answer is that of the turned objective, and the dual is that of the answer.
use Rattle.pm_clients_lp.proofs.programs.optimum_by_dictionaries.Goals as goal
use Rattle.std.proofs.Common.{◌∙◌}

pub returns-in-Ok-clause-found : goal.returns-in-Ok-clause-found
returns-in-Ok-clause-found c = record {
  answer = c.in_ok-answer.answer;
  right = rw (c.deref.ensures.value, c.in_ok-turned.ensures) at c.in_ok-answer.ensures.answer;
  value = c.optimum_by-value.ensures ∙ c.greatest_told.ensures;
  dual = c.in-Ok.ensures.rows;
}
