use Rattle.pm_check.proofs.WordExamples.{words_ask, words_ask_nothing}
use Rattle.pm_check.proofs.examples.example_words.Goals as goal

pub returns-clause-asked : goal.returns-clause-asked
returns-clause-asked c = words_ask

pub returns-clause-nothing : goal.returns-clause-nothing
returns-clause-nothing c = words_ask_nothing
