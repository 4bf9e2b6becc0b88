-- When a rule may be applied, where the names in use, the barred rules and the names held are given.
use Rattle.std.specs.Prelude.{◌≡◌, Bool, false, IsTrue, Option, List, nat_eq, slice_get}
use Rattle.std.specs.List.{list_any}
use Rattle.pm_props.specs.declared.property.PropId.{PropId}
use Rattle.pm_props.specs.declared.set.PropSet.{PropSet}
use Rattle.pm_props.specs.declared.kind.RuleId.{RuleId}
use Rattle.pm_props.specs.Properties.{has_program, rays_tag, facets_tag, generators_tag, half_spaces_tag}
use Rattle.pm_props.specs.Sets.{has, union, IsSubset}
use Rattle.pm_props.specs.Kinds.{names_of, IsFresh}
use Rattle.pm_rules.specs.declared.rule.Rule.{Rule}

-- the rule of this number
abbrev pub rule_at : List Rule → RuleId → Option Rule
rule_at book id = slice_get book id.0

-- the names of its preconditions
abbrev pub conditions : Rule → PropSet
conditions rule = union rule.must rule.must_not

-- these, and its sources
abbrev pub inputs : Rule → PropSet
inputs rule = union rule.kind.sources (conditions rule)

-- all its names
abbrev pub names_of_rule : Rule → PropSet
names_of_rule rule = union rule.kind.targets (inputs rule)

-- P of each of the four tags
abbrev pub EachTag : ((PropId → Bool) → Type 0) → Type 0
EachTag P = P rays_tag × P facets_tag × P generators_tag × P half_spaces_tag

-- no name held has the tag
abbrev pub IsFreeOf : (PropId → Bool) → PropSet → Type 0
IsFreeOf tag held = (p : PropId) → IsTrue (has held p) → tag p ≡ false

-- all names of the rule are in use, unless its kind has a name of linear programs and is fresh in a tag
pub record IsInUse (names : PropSet) (rule : Rule) : Type 0 where
  pub known : IsSubset (names_of_rule rule) names
  pub programs : (p : PropId) → IsTrue (has (names_of rule.kind) p) → IsTrue (has_program p)
      → EachTag (λ tag. IsFresh tag rule.kind → ⊥)

-- the rule is among the barred ones
abbrev pub is_barred : List RuleId → RuleId → Bool
is_barred barred id = list_any (λ other. nat_eq other.0 id.0) barred

-- the rule may be applied to the names held
pub record IsEnabled (names : PropSet) (barred : List RuleId) (held : PropSet) (id : RuleId) (rule : Rule)
    : Type 0 where
  pub in_use : IsInUse names rule
  pub allowed : is_barred barred id ≡ false
  pub given : IsSubset (inputs rule) held
  pub fresh : EachTag (λ tag. IsFresh tag rule.kind → IsFreeOf tag held)
  pub more : (p : PropId) × IsTrue (has rule.kind.targets p) × (has held p ≡ false)
