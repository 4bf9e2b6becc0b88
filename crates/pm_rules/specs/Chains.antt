-- Chains of rules, their weights, and which rules can serve to find the asked names.
use Rattle.std.specs.Prelude.{◌≡◌, false, IsTrue, Some, List, [], ◌∷◌, sum_by, unwrap_or, option_map}
use Rattle.pm_props.specs.declared.property.PropId.{PropId}
use Rattle.pm_props.specs.declared.set.PropSet.{PropSet}
use Rattle.pm_props.specs.declared.kind.RuleId.{RuleId}
use Rattle.pm_weights.specs.declared.Weight.{Weight}
use Rattle.pm_weights.specs.declared.Cost.{Cost}
use Rattle.pm_props.specs.Sets.{has, union, IsSubset}
use Rattle.pm_weights.specs.Weights.{IsAtMost}
use Rattle.pm_rules.specs.declared.rule.Rule.{Rule}
use Rattle.pm_rules.specs.Rules.{rule_at, inputs, IsInUse, is_barred, IsEnabled}

-- each rule is enabled in turn, from the names held on
abbrev pub IsChain : List Rule → PropSet → List RuleId → PropSet → List RuleId → Type 0
IsChain book names barred held [] = Unit {0}
IsChain book names barred held (id ∷ chain) =
    (rule : Rule) × (rule_at book id ≡ Some rule) × IsEnabled names barred held id rule
    × IsChain book names barred (union held rule.kind.targets) chain

-- what a rule adds to the names held, and what it weighs
abbrev pub targets_at : List Rule → RuleId → PropSet
targets_at book id = unwrap_or (option_map (λ rule. rule.kind.targets) (rule_at book id)) 0

abbrev pub weight_at : List Rule → RuleId → Weight
weight_at book id = unwrap_or (option_map (λ rule. rule.weight) (rule_at book id))
    (record { class = 0; minor = 0 })

-- the names held after the chain
abbrev pub reached : List Rule → PropSet → List RuleId → PropSet
reached book held [] = held
reached book held (id ∷ chain) = reached book (union held (targets_at book id)) chain

-- the sum of the rules' classes and the sum of their minors
abbrev pub weigh : List Rule → List RuleId → Cost
weigh book chain = record {
  class = sum_by (λ id. (weight_at book id).class) chain;
  minor = sum_by (λ id. (weight_at book id).minor) chain;
}

-- it is a chain after which all asked names are held
pub record LeadsTo (book : List Rule) (names : PropSet) (barred : List RuleId) (held asked : PropSet)
    (chain : List RuleId) : Type 0 where
  pub enabled : IsChain book names barred held chain
  pub ends : IsSubset asked (reached book held chain)

-- it leads there, and no other that does weighs less
pub record IsLeast (book : List Rule) (names : PropSet) (barred : List RuleId) (held asked : PropSet)
    (chain : List RuleId) : Type 0 where
  pub leads : LeadsTo book names barred held asked chain
  pub least : (other : List RuleId) → LeadsTo book names barred held asked other
      → IsAtMost (weigh book chain) (weigh book other)

-- none leads there
abbrev pub HasNoChain : List Rule → PropSet → List RuleId → PropSet → PropSet → Type 0
HasNoChain book names barred held asked = (chain : List RuleId) → LeadsTo book names barred held asked chain
    → ⊥

-- p is asked, or a useful rule reads it
pub data Needed (book : List Rule) (names : PropSet) (barred : List RuleId) (asked : PropSet) : PropId
    → Type 0 where
  is_asked : {p : PropId} → IsTrue (has asked p) → Needed book names barred asked p
  is_read : {p : PropId} (id : RuleId) (rule : Rule) (target : PropId) → rule_at book id ≡ Some rule
      → IsInUse names rule → is_barred barred id ≡ false
      → IsTrue (has rule.kind.targets target) → Needed book names barred asked target
      → IsTrue (has (inputs rule) p) → Needed book names barred asked p

-- in use, not barred, and a target of it is needed
pub record IsUseful (book : List Rule) (names : PropSet) (barred : List RuleId) (asked : PropSet)
    (id : RuleId) (rule : Rule) : Type 0 where
  pub in_use : IsInUse names rule
  pub allowed : is_barred barred id ≡ false
  pub target : (p : PropId) × IsTrue (has rule.kind.targets p) × Needed book names barred asked p

-- each rule of the chain is useful
abbrev pub AreUseful : List Rule → PropSet → List RuleId → PropSet → List RuleId → Type 0
AreUseful book names barred asked [] = Unit {0}
AreUseful book names barred asked (id ∷ chain) =
    ((rule : Rule) → rule_at book id ≡ Some rule → IsUseful book names barred asked id rule)
    × AreUseful book names barred asked chain

-- kept is the chain without the rules that are not useful
pub data IsUsefulPart (book : List Rule) (names : PropSet) (barred : List RuleId) (asked : PropSet)
    : List RuleId → List RuleId → Type 0 where
  none : IsUsefulPart book names barred asked [] []
  keep : {id : RuleId} {chain kept : List RuleId} (rule : Rule) → rule_at book id ≡ Some rule
      → IsUseful book names barred asked id rule
      → IsUsefulPart book names barred asked chain kept
      → IsUsefulPart book names barred asked (id ∷ chain) (id ∷ kept)
  leave : {id : RuleId} {chain kept : List RuleId} (rule : Rule) → rule_at book id ≡ Some rule
      → (IsUseful book names barred asked id rule → ⊥)
      → IsUsefulPart book names barred asked chain kept
      → IsUsefulPart book names barred asked (id ∷ chain) kept
