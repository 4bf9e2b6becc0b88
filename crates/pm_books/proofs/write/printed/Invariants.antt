use Rattle.std.proofs.Common.{◌≡◌, ◌++◌, string_bytes, drop}
use Rattle.pm_books.specs.Writing.{text_of}
use Rattle.pm_books.proofs.write.printed.Given as goal

-- with what is left to print, the text is the whole
abbrev pub invariant-loop-rule : goal.invariant-loop-rule
invariant-loop-rule l = string_bytes l.text ++ text_of (drop l.rule-index l.rules) ≡ text_of l.rules
