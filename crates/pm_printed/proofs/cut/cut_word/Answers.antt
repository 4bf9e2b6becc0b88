use Rattle.std.proofs.Common.{arith}
use Rattle.std.proofs.lemmas.Str.Pattern.{split_after}
use Rattle.pm_printed.proofs.cut.cut_word.Goals as goal

pub returns : goal.returns
returns c = λ xs ys lacks e. split_after 32 c.args.text.now xs ys c.split_once.result c.split_once.ensures.cases (omega arith) e lacks
