-- Rules by their labels.
use Rattle.std.specs.Prelude.{ℕ, Option, List, position}
use Rattle.std.specs.Option.{option_map}
use Rattle.std.specs.Str.{bytes_eq}
use Rattle.pm_props.specs.declared.kind.RuleId.{RuleId}
use Rattle.pm_rules.specs.declared.rule.Rule.{Rule}

abbrev pub rule_number : ℕ → RuleId
rule_number n = record { 0 = n }

-- the first rule of this label, if the book has one
abbrev pub labelled : List Rule → List ℕ → Option RuleId
labelled book label = option_map rule_number (position (λ rule. bytes_eq rule.label label) book)
