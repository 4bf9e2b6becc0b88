-- How books are printed: one rule a line, with names by the order of their numbers.
use Rattle.std.specs.Prelude.{ℕ, Bool, ◌||◌, if◌then◌else◌, List, [], ◌∷◌, ◌++◌, map, codes}
use Rattle.std.specs.List.{flat_map}
use Rattle.std.specs.Str.{bytes_eq}
use Rattle.pm_props.specs.declared.property.PropId.{PropId}
use Rattle.pm_props.specs.Properties.{first_name}
use Rattle.pm_props.specs.Sets.{has, members}
use Rattle.pm_weights.specs.Weights.{weight_text}
use Rattle.pm_rules.specs.declared.rule.Rule.{Rule}
use Rattle.pm_rules.specs.Rules.{conditions}
use Rattle.pm_books.specs.Grammar.{Condition, Written, words_behind_label}

abbrev pub is_tight : List ℕ → Bool
is_tight word = bytes_eq word (codes ",") || bytes_eq word (codes ";")

unfoldable pub spaced_word : List ℕ → List ℕ
spaced_word word = if is_tight word then word else 32 ∷ word

-- the words with one space before each, but before `,` and `;`
abbrev pub spaced : List (List ℕ) → List ℕ
spaced words = flat_map spaced_word words

abbrev pub condition_of_rule : Rule → PropId → Condition
condition_of_rule rule p = record { negated = has rule.must_not p; name = first_name p }

-- the rule with the first names of its properties
abbrev pub written_of : Rule → Written
written_of rule = record {
  label = rule.label;
  targets = map first_name (members rule.kind.targets);
  sources = map first_name (members rule.kind.sources);
  client = rule.kind.name;
  weight = weight_text rule.weight;
  conditions = map (condition_of_rule rule) (members (conditions rule));
}

-- 10 is LF
unfoldable pub line_of : Rule → List ℕ
line_of rule = rule.label ++ spaced (words_behind_label (written_of rule)) ++ 10 ∷ []

-- the lines of all rules
abbrev pub text_of : List Rule → List ℕ
text_of rules = flat_map line_of rules
