use Rattle.pm_programs.proofs.Dictionaries.{dictionary_is_unique}
use Rattle.pm_programs.proofs.law_dictionary_is_unique.Goals as goal

pub returns : goal.returns
returns c = dictionary_is_unique
