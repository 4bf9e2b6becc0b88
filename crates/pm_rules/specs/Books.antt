-- Books of rules.
use Rattle.std.specs.Prelude.{◌≡◌, ◌≢◌, ℕ, ◌^◌, ◌<◌, ◌≤◌, false, IsTrue, List, Some, length, find, All, AllPairs}
use Rattle.std.specs.Str.{bytes_eq}
use Rattle.pm_props.specs.declared.property.PropId.{PropId}
use Rattle.pm_props.specs.declared.property.ValueKind.TheVariants as value
use Rattle.pm_props.specs.declared.set.PropSet.{PropSet}
use Rattle.pm_props.specs.declared.kind.Kind.{Kind}
use Rattle.pm_props.specs.Properties.{count, value_kind}
use Rattle.pm_props.specs.Sets.{has, IsWithin}
use Rattle.pm_weights.specs.Weights.{IsWeight}
use Rattle.pm_rules.specs.declared.rule.Rule.{Rule}
use Rattle.pm_rules.specs.Rules.{conditions}
use Rattle.pm_rules.specs.Words.{is_word, is_label}
use Rattle.pm_limits.specs.Limits.{most_rules}

-- some property is in the set, and no bit is set that is no property's
pub record IsNamed (set : PropSet) : Type 0 where
  pub some : 0 < set
  pub below : set < 2 ^ count

-- what holds of each rule of a book
pub record IsRule (rule : Rule) : Type 0 where
  pub label : IsTrue (is_label rule.label)
  pub client : IsTrue (is_word rule.kind.name)
  pub targets : IsNamed rule.kind.targets
  pub sources : IsNamed rule.kind.sources
  pub weight : IsWeight rule.weight
  -- preconditions are true or false, and the kind's own are among them
  pub flags : (p : PropId) → IsTrue (has (conditions rule) p) → value_kind p ≡ value.Bool
  pub apart : (p : PropId) → IsTrue (has rule.must p) → has rule.must_not p ≡ false
  pub must : IsWithin rule.kind.must rule.must
  pub must_not : IsWithin rule.kind.must_not rule.must_not
  pub must_below : rule.must < 2 ^ count
  pub must_not_below : rule.must_not < 2 ^ count

-- what holds of a book: at most 256 rules, no label twice
pub record IsBook (rules : List Rule) : Type 0 where
  pub few : length rules ≤ most_rules
  pub labels : AllPairs (λ a b. a.label ≢ b.label) rules
  pub each : All IsRule rules

-- the kind of each rule is the first of its name among these
abbrev pub FirstKinds : List Kind → List Rule → Type 0
FirstKinds kinds rules =
    All (λ rule. find (λ kind. bytes_eq kind.name rule.kind.name) kinds ≡ Some rule.kind) rules
