-- The first rules have their names.
use Rattle.std.proofs.Common.{take, ◌≡◌}
use Rattle.pm_telling.specs.Telling.{rules_told}
use Rattle.pm_telling.proofs.names.rule_names.Given as goal

abbrev pub invariant-loop-rule : goal.invariant-loop-rule
invariant-loop-rule l = l.labels.items ≡ (rules_told (take l.rule-index l.rules)).rules
