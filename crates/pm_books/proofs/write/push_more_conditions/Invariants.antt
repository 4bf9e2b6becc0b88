use Rattle.std.proofs.Common.{◌≡◌, ◌++◌, string_bytes, map, drop}
use Rattle.std.specs.List.{flat_map}
use Rattle.pm_books.specs.Grammar.{behind_comma, condition_item}
use Rattle.pm_books.specs.Writing.{spaced, condition_of_rule}
use Rattle.pm_books.proofs.write.push_more_conditions.Given as goal

-- with what is left to print, the text is the whole
abbrev pub invariant-loop-p : goal.invariant-loop-p
invariant-loop-p l = string_bytes l.text ++ spaced (flat_map behind_comma (map condition_item (map (condition_of_rule l.rule) (drop l.p-index l.list)))) ≡ string_bytes l.initial.text ++ spaced (flat_map behind_comma (map condition_item (map (condition_of_rule l.rule) l.list)))
