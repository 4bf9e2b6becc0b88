use Rattle.std.proofs.Common.{◌≡◌, ◌++◌, string_bytes, map, drop}
use Rattle.pm_books.specs.Writing.{spaced}
use Rattle.pm_books.proofs.write.push_words.Given as goal

-- with what is left to print, the text is the whole
abbrev pub invariant-loop-word : goal.invariant-loop-word
invariant-loop-word l = string_bytes l.text ++ spaced (map (λ w. w.now) (drop l.word-index l.words)) ≡ string_bytes l.initial.text ++ spaced (map (λ w. w.now) l.words)
