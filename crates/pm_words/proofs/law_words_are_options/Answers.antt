use Rattle.pm_words.proofs.Order.{words_are_options}
use Rattle.pm_words.proofs.law_words_are_options.Goals as goal

pub returns : goal.returns
returns c = words_are_options
