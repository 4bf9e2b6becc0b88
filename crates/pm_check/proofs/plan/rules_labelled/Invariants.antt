-- With what the rest of the labels adds to them, the rules are those of all.
use Rattle.std.proofs.Common.{◌≡◌, ◌++◌, drop, map, string_bytes}
use Rattle.std.specs.Option.{option_map}
use Rattle.pm_check.specs.Questions.{all_labelled}
use Rattle.pm_check.proofs.plan.rules_labelled.Given as goal

abbrev pub invariant-loop-label : goal.invariant-loop-label
invariant-loop-label l = option_map (λ ids. l.found.items ++ ids) (all_labelled l.rules (map string_bytes (drop l.label-index l.labels))) ≡ all_labelled l.rules (map string_bytes l.labels)
