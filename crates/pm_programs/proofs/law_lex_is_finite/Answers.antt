use Rattle.pm_programs.proofs.Lex.{lex_is_finite}
use Rattle.pm_programs.proofs.law_lex_is_finite.Goals as goal

pub returns : goal.returns
returns c = lex_is_finite
