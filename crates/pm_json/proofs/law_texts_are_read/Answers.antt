use Rattle.pm_json.proofs.GrammarReads.{texts_are_read}
use Rattle.pm_json.proofs.law_texts_are_read.Goals as goal

pub returns : goal.returns
returns c = texts_are_read
