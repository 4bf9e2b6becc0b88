use Rattle.std.proofs.Common.{arith, map, string_bytes}
use Rattle.std.proofs.lemmas.List.{length-map}
use Rattle.pm_words.proofs.Taken.{not_taken, too_many}
use Rattle.pm_words.proofs.read_words.Goals as goal

pub returns-then-words-gt-MOST_WORDS-clause-bad : goal.returns-then-words-gt-MOST_WORDS-clause-bad
returns-then-words-gt-MOST_WORDS-clause-bad c e = too_many (map string_bytes c.args.words.now) (rw length-map (omega arith))

pub returns-then-not-taken-clause-bad : goal.returns-then-not-taken-clause-bad
returns-then-not-taken-clause-bad c e = not_taken (map string_bytes c.args.words.now) (c.in_ok-taken.ensures c.if-not-taken.true)
