-- The sets of the properties that have a tag, and what they show of a kind.
use Rattle.std.proofs.Common.{◌≡◌, ◌<◌, ◌^◌, ℕ, Bool, true, false, not, ◌&&◌, ◌||◌, ◌↔◌, if◌then◌else◌, IsTrue}
use Rattle.std.proofs.Common.{List, [], ◌∷◌, filter, fold, inl, inr, refl, sym, ap, ◌∙◌, arith}
use Rattle.std.proofs.lemmas.Bool.{cases_Bool, both_ways, false_from_ne_true}
use Rattle.pm_props.specs.declared.property.PropId.{PropId}
use Rattle.pm_props.specs.declared.kind.Kind.{Kind}
use Rattle.pm_props.specs.Properties.{count, every_property}
use Rattle.pm_props.specs.Sets.{has, only, set_of, union}
use Rattle.pm_props.proofs.Every.{any_property, no_property, has-set_of_filter}
use Rattle.pm_props.proofs.Members.{has-empty, has-union, only_below, same_members, union_below}
use Rattle.pm_rules.specs.declared.step.Tag.{Tag}
use Rattle.pm_rules.specs.declared.step.Tag.TheVariants.{Rays, Facets, Generators, HalfSpaces}
use Rattle.pm_rules.specs.Steps.{tag_test, some_has, is_fresh, blocks, blocked}

-- all that pass the test
abbrev all_of : (PropId → Bool) → ℕ
all_of test = set_of (filter test every_property)

-- ---- whether a property of a set has a tag
module _ (tag : Tag) (set tagged both : ℕ) (is : tagged ≡ all_of (tag_test tag))
    (members : (p : PropId) → has both p ≡ (has set p && has tagged p)) where
  has_both : (p : PropId) → has both p ≡ (has set p && tag_test tag p)
  has_both p = members p ∙ ap (λ b. has set p && b) (ap (λ s. has s p) is ∙ has-set_of_filter (tag_test tag) p)

  none_has : ((p : PropId) → has both p ≡ false) → some_has tag set ≡ false
  unfolding some_has
  none_has h = false_from_ne_true (some_has tag set) (λ e.
      let found = (any_property (λ p. has set p && tag_test tag p)).0 e in
      both_ways (has both found.0) (h found.0) (has_both found.0 ∙ found.1))

  all_lack : some_has tag set ≡ false → (p : PropId) → has both p ≡ false
  unfolding some_has
  all_lack e p = has_both p ∙ no_property (λ q. has set q && tag_test tag q) e p

  pub some_by_test : (c : Bool) → IsTrue c ↔ ((p : PropId) → has both p ≡ false) → not c ≡ some_has tag set
  some_by_test true h = sym (none_has (h.0 refl))
  some_by_test false h = elim (cases_Bool (some_has tag set)) [
    | inl t ↦ sym t
    | inr f ↦ absurd (both_ways false refl (h.1 (all_lack f)))
  ]

-- ---- what is blocked
zero_below : 0 < 2 ^ count
zero_below = omega arith

below_from : (ps : List PropId) (s : ℕ) → s < 2 ^ count → fold (λ t q. union t (only q)) s ps < 2 ^ count
below_from [] s h = h
below_from (q ∷ ps) s h = below_from ps (union s (only q)) (union_below s (only q) h (only_below q))

-- all that pass the test, or nothing
abbrev chosen : Bool → (PropId → Bool) → ℕ
chosen b test = if b then all_of test else 0

has_chosen : (b : Bool) (test : PropId → Bool) (p : PropId) → has (chosen b test) p ≡ (b && test p)
has_chosen true test p = has-set_of_filter test p
has_chosen false test p = has-empty p

chosen_below : (b : Bool) (test : PropId → Bool) → chosen b test < 2 ^ count
chosen_below true test = below_from (filter test every_property) 0 zero_below
chosen_below false test = zero_below

-- all that have the tag, where the kind is fresh in it
abbrev part : Kind → Tag → ℕ
part kind tag = chosen (is_fresh tag kind) (tag_test tag)

abbrev halves : Kind → ℕ
halves kind = union (part kind Generators) (part kind HalfSpaces)

abbrev all_parts : Kind → ℕ
all_parts kind = union (part kind Rays) (union (part kind Facets) (halves kind))

has_part : (kind : Kind) (tag : Tag) (p : PropId) → has (part kind tag) p ≡ (is_fresh tag kind && tag_test tag p)
has_part kind tag p = has_chosen (is_fresh tag kind) (tag_test tag) p

part_below : (kind : Kind) (tag : Tag) → part kind tag < 2 ^ count
part_below kind tag = chosen_below (is_fresh tag kind) (tag_test tag)

all_parts_below : (kind : Kind) → all_parts kind < 2 ^ count
all_parts_below kind =
    let below = part_below kind in
    let last = union_below (part kind Generators) (part kind HalfSpaces) (below Generators) (below HalfSpaces) in
    let rest = union_below (part kind Facets) (halves kind) (below Facets) last in
    union_below (part kind Rays) (union (part kind Facets) (halves kind)) (below Rays) rest

has_either : (s t : ℕ) (p : PropId) (a b : Bool) → has s p ≡ a → has t p ≡ b → has (union s t) p ≡ (a || b)
has_either s t p a b e f = has-union s t p ∙ rw (e, f) refl

has_all_parts : (kind : Kind) (p : PropId) → has (all_parts kind) p ≡ blocks kind p
has_all_parts kind p =
    let last = has_either (part kind Generators) (part kind HalfSpaces) p _ _
    (has_part kind Generators p) (has_part kind HalfSpaces p) in
    let rest = has_either (part kind Facets) (halves kind) p _ _ (has_part kind Facets p) last in
    has_either (part kind Rays) (union (part kind Facets) (halves kind)) p _ _ (has_part kind Rays p) rest

pub blocked_is : (kind : Kind) → all_parts kind ≡ blocked kind
unfolding blocked
blocked_is kind =
    let low = below_from (filter (blocks kind) every_property) 0 zero_below in
    same_members (all_parts kind) (all_of (blocks kind)) (all_parts_below kind) low
    (λ p. has_all_parts kind p ∙ sym (has-set_of_filter (blocks kind) p))
