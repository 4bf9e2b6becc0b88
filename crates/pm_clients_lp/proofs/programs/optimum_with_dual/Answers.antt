use Rattle.pm_clients_lp.proofs.programs.optimum_with_dual.Goals as goal
use Rattle.std.proofs.Common.{◌∙◌}

pub returns-in-Ok-clause-found : goal.returns-in-Ok-clause-found
returns-in-Ok-clause-found c = record {
  answer = c.in_ok-answer.answer;
  right = c.in_ok-answer.ensures.answer;
  value = c.optimum_by-value.ensures ∙ c.greatest_told.ensures;
  dual = c.in-Ok.ensures.rows;
}
