-- What a rule asks of the names held, as sets.
use Rattle.std.specs.Prelude.{◌≡◌, Bool, false, not, ◌&&◌, ◌||◌, IsTrue, filter}
use Rattle.std.specs.List.{list_any}
use Rattle.pm_props.specs.declared.property.PropId.{PropId}
use Rattle.pm_props.specs.declared.set.PropSet.{PropSet}
use Rattle.pm_props.specs.declared.kind.Kind.{Kind}
use Rattle.pm_props.specs.Properties.{every_property, has_program, rays_tag, facets_tag, generators_tag, half_spaces_tag}
use Rattle.pm_props.specs.Sets.{has, set_of, IsSubset}
use Rattle.pm_rules.specs.declared.rule.Rule.{Rule}
use Rattle.pm_rules.specs.declared.step.Tag.{Tag}
use Rattle.pm_rules.specs.declared.step.Tag.TheVariants.{Rays, Facets, Generators, HalfSpaces}
use Rattle.pm_rules.specs.declared.step.Step.{Step}
use Rattle.pm_rules.specs.Rules.{inputs}

-- the property has the tag
abbrev pub tag_test : Tag → PropId → Bool
tag_test Rays p = rays_tag p
tag_test Facets p = facets_tag p
tag_test Generators p = generators_tag p
tag_test HalfSpaces p = half_spaces_tag p

-- some property of the set has the tag
unfoldable pub some_has : Tag → PropSet → Bool
some_has tag set = list_any (λ p. has set p && tag_test tag p) every_property

-- some property of the set is one of linear programs
unfoldable pub some_program : PropSet → Bool
some_program set = list_any (λ p. has set p && has_program p) every_property

abbrev pub is_fresh : Tag → Kind → Bool
is_fresh tag kind = some_has tag kind.targets && not (some_has tag kind.sources)

abbrev pub is_fresh_somewhere : Kind → Bool
is_fresh_somewhere kind =
    ((is_fresh Rays kind || is_fresh Facets kind) || is_fresh Generators kind) || is_fresh HalfSpaces kind

-- the property has one of the tags that are chosen
abbrev pub has_some_tag : Bool → Bool → Bool → Bool → PropId → Bool
has_some_tag rays facets generators half_spaces p =
    (rays && rays_tag p) ||
    ((facets && facets_tag p) ||
    ((generators && generators_tag p) || (half_spaces && half_spaces_tag p)))

abbrev pub blocks : Kind → PropId → Bool
blocks kind = has_some_tag (is_fresh Rays kind) (is_fresh Facets kind) (is_fresh Generators kind)
    (is_fresh HalfSpaces kind)

-- all properties that have a tag in which the rule's kind is fresh
unfoldable pub blocked : Kind → PropSet
blocked kind = set_of (filter (blocks kind) every_property)

-- its targets, what it reads, and what may not be held
abbrev pub step_of : Rule → Step
step_of rule = record { targets = rule.kind.targets; inputs = inputs rule; blocked = blocked rule.kind }

-- what is read is held, and nothing is held that may not be
pub record IsReady (step : Step) (held : PropSet) : Type 0 where
  pub given : IsSubset step.inputs held
  pub free : (p : PropId) → IsTrue (has held p) → has step.blocked p ≡ false

-- what is read is held, nothing is held that may not be, and some target is not held
pub record IsOpen (step : Step) (held : PropSet) : Type 0 where
  pub given : IsSubset step.inputs held
  pub free : (p : PropId) → IsTrue (has held p) → has step.blocked p ≡ false
  pub more : (p : PropId) × IsTrue (has step.targets p) × (has held p ≡ false)
