-- The words seen so far are different, and with what is left they are those of all words.
use Rattle.std.specs.Prelude.{drop, fold, length, map, ◌≡◌, ◌≤◌}
use Rattle.pm_command.specs.Words.{distinct, with_word}
use Rattle.pm_command.proofs.command.are_few.Given as goal

abbrev pub invariant-loop-word : goal.invariant-loop-word
invariant-loop-word l = (fold with_word (map (λ w. w.now) l.seen.items) (map (λ w. w.now) (drop l.word-index l.words)) ≡ distinct (map (λ w. w.now) l.words)) × (length l.seen.items ≤ 4)
