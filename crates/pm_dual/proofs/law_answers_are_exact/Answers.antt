use Rattle.pm_dual.proofs.Exact.{answers_are_exact}
use Rattle.pm_dual.proofs.law_answers_are_exact.Goals as goal

pub returns : goal.returns
returns c = answers_are_exact
