-- With what the rest of the words names, the set is that of all words.
use Rattle.std.proofs.Common.{◌≡◌, drop, fold, map, string_bytes}
use Rattle.std.specs.Option.{option_map}
use Rattle.pm_machine.specs.Steps.{all_named, asked_in}
use Rattle.pm_props.specs.Sets.{only, union}
use Rattle.pm_machine.proofs.asking.asked_in.Given as goal

abbrev pub invariant-loop-word : goal.invariant-loop-word
invariant-loop-word l = option_map (λ ps. fold (λ s p. union s (only p)) l.asked ps) (all_named l.of l.sub (map string_bytes (drop l.word-index l.words))) ≡ asked_in l.of l.sub (map string_bytes l.words)
