use Rattle.std.proofs.Common.{◌≡◌, ◌++◌, ◌∷◌, [], map, string_bytes, codes, rules}
use Rattle.pm_props.specs.Properties.{first_name}
use Rattle.pm_props.specs.Sets.{members}
use Rattle.pm_weights.specs.Weights.{weight_text}
use Rattle.pm_rules.specs.Rules.{conditions}
use Rattle.pm_books.specs.Grammar.{separated, name_item, precondition_words}
use Rattle.pm_books.specs.Writing.{spaced, condition_of_rule, line_of}
use Rattle.pm_books.proofs.Printed.{line_parts}
use Rattle.pm_books.proofs.write.push_line.Goals as goal

pub returns : goal.returns
unfolding line_of
returns c =
    let rule = c.args.rule.now in
    let label : string_bytes c.push_str.new.self ≡ string_bytes c.args.text.now ++ rule.label = (rw c.as_str.ensures at c.in_ok-push_str.ensures.bytes) in
    let weight : string_bytes c.in_ok-weight.weight ≡ weight_text rule.weight = search rules in
    let body : string_bytes c.push_words-3.new.text ≡ string_bytes c.push_names-2.new.text
    ++ spaced (codes "{" ∷ rule.kind.name ∷ codes "}" ∷ codes "weight" ∷ weight_text rule.weight ∷ codes ";" ∷ []) =
    (rw (c.as_str-2.ensures, c.as_str-3.ensures.value, weight) at c.in_ok-push_words-3.ensures) in
    line_parts (string_bytes c.args.text.now) (string_bytes c.push_str.new.self) (string_bytes c.push_words.new.text) (string_bytes c.push_names.new.text) (string_bytes c.push_words-2.new.text)
    (string_bytes c.push_names-2.new.text) (string_bytes c.push_words-3.new.text) (string_bytes c.push_conditions.new.text) (string_bytes c.push_str-2.new.self) rule.label rule.kind.name (weight_text rule.weight)
    (separated (map name_item (map first_name (members rule.kind.targets)))) (separated (map name_item (map first_name (members rule.kind.sources))))
    (precondition_words (map (condition_of_rule rule) (members (conditions rule))))
    label c.in_ok-push_words.ensures c.in_ok-push_names.ensures c.in_ok-push_words-2.ensures c.in_ok-push_names-2.ensures body c.in_ok-push_conditions.ensures c.in_ok-push_str-2.ensures.bytes
