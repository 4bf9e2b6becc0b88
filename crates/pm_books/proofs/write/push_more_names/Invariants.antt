use Rattle.std.proofs.Common.{◌≡◌, ◌++◌, string_bytes, map, drop}
use Rattle.pm_props.specs.Properties.{first_name}
use Rattle.std.specs.List.{flat_map}
use Rattle.pm_books.specs.Grammar.{behind_comma, name_item}
use Rattle.pm_books.specs.Writing.{spaced}
use Rattle.pm_books.proofs.write.push_more_names.Given as goal

-- with what is left to print, the text is the whole
abbrev pub invariant-loop-p : goal.invariant-loop-p
invariant-loop-p l = string_bytes l.text ++ spaced (flat_map behind_comma (map name_item (map first_name (drop l.p-index l.names)))) ≡ string_bytes l.initial.text ++ spaced (flat_map behind_comma (map name_item (map first_name l.names)))
