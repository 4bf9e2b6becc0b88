-- With what the rest of the words names, the set is that of all words.
use Rattle.std.proofs.Common.{◌≡◌, drop, fold, map, string_bytes}
use Rattle.std.specs.Option.{option_map}
use Rattle.pm_check.specs.Words.{all_named, named}
use Rattle.pm_props.specs.Sets.{only, union}
use Rattle.pm_check.proofs.words.set_named.Given as goal

abbrev pub invariant-loop-word : goal.invariant-loop-word
invariant-loop-word l = option_map (λ ps. fold (λ s p. union s (only p)) l.set ps) (all_named (map string_bytes (drop l.word-index l.words))) ≡ named (map string_bytes l.words)
