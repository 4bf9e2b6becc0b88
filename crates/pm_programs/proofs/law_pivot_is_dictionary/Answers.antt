use Rattle.pm_programs.proofs.Dictionaries.{pivot_is_dictionary}
use Rattle.pm_programs.proofs.law_pivot_is_dictionary.Goals as goal

pub returns : goal.returns
returns c = pivot_is_dictionary
