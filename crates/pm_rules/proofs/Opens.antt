-- What the code tests of a rule is what the definitions ask of it.
use Rattle.std.proofs.Common.{◌≡◌, Bool, false, not, ◌&&◌, ◌||◌, ◌↔◌, IsTrue, List, sym, ◌∙◌, inl, inr}
use Rattle.std.proofs.lemmas.Bool.{cases_Bool, and_parts, and_from, and_cases, and_left, and_right, or_parts, or_from, not-true, not_from_false, both_ways, false_from_ne_true, iff_false}
use Rattle.pm_props.specs.declared.property.PropId.{PropId}
use Rattle.pm_props.specs.declared.set.PropSet.{PropSet}
use Rattle.pm_props.specs.declared.kind.Kind.{Kind}
use Rattle.pm_props.specs.declared.kind.RuleId.{RuleId}
use Rattle.pm_props.specs.Properties.{has_program, rays_tag, facets_tag, generators_tag, half_spaces_tag}
use Rattle.pm_props.specs.Sets.{has, IsSubset}
use Rattle.pm_props.specs.Kinds.{IsFresh, names_of}
use Rattle.pm_props.proofs.Every.{any_property, no_property, one_missing, has-set_of_filter}
use Rattle.pm_rules.specs.declared.rule.Rule.{Rule}
use Rattle.pm_rules.specs.declared.step.Tag.{Tag}
use Rattle.pm_rules.specs.declared.step.Tag.TheVariants.{Rays, Facets, Generators, HalfSpaces}
use Rattle.pm_rules.specs.declared.step.Step.{Step}
use Rattle.pm_rules.specs.Rules.{names_of_rule, is_barred, EachTag, IsFreeOf, IsInUse, IsEnabled}
use Rattle.pm_rules.specs.Steps.{tag_test, some_has, some_program, is_fresh, is_fresh_somewhere, blocks, blocked, step_of, IsReady, IsOpen}

-- ---- fresh tags
fresh_from_test : (tag : Tag) (kind : Kind) → IsTrue (is_fresh tag kind) → IsFresh (tag_test tag) kind
unfolding some_has
fresh_from_test tag kind h =
    let both = and_parts (some_has tag kind.targets) (not (some_has tag kind.sources)) h in
    let found = (any_property (λ p. has kind.targets p && tag_test tag p)).0 both.0 in
    let parts = and_parts (has kind.targets found.0) (tag_test tag found.0) found.1 in
    record {
      target = (found.0, parts.0, parts.1);
      sources = λ p k. elim (and_cases (has kind.sources p) (tag_test tag p) (no_property (λ q. has kind.sources q && tag_test tag q) (not-true (some_has tag kind.sources) both.1) p)) [
        | inl e ↦ absurd (both_ways (has kind.sources p) e k)
        | inr e ↦ e
      ];
    }

test_from_fresh : (tag : Tag) (kind : Kind) → IsFresh (tag_test tag) kind → IsTrue (is_fresh tag kind)
unfolding some_has
test_from_fresh tag kind h =
    and_from (some_has tag kind.targets) (not (some_has tag kind.sources))
    ((any_property (λ p. has kind.targets p && tag_test tag p)).1 (h.target.0, and_from (has kind.targets h.target.0) (tag_test tag h.target.0) h.target.1 h.target.2))
    (not_from_false (some_has tag kind.sources) (false_from_ne_true (some_has tag kind.sources) (λ e.
    let found = (any_property (λ p. has kind.sources p && tag_test tag p)).0 e in
    let both = and_parts (has kind.sources found.0) (tag_test tag found.0) found.1 in
    both_ways (tag_test tag found.0) (h.sources found.0 both.0) both.1)))

not_fresh : (tag : Tag) (kind : Kind) → is_fresh tag kind ≡ false → IsFresh (tag_test tag) kind → ⊥
not_fresh tag kind e h = both_ways (is_fresh tag kind) e (test_from_fresh tag kind h)

test_not_fresh : (tag : Tag) (kind : Kind) → (IsFresh (tag_test tag) kind → ⊥) → is_fresh tag kind ≡ false
test_not_fresh tag kind not_so = false_from_ne_true (is_fresh tag kind) (λ h. not_so (fresh_from_test tag kind h))

-- ---- in use
none_fresh_from_test : (kind : Kind) → is_fresh_somewhere kind ≡ false → EachTag (λ tag. IsFresh tag kind → ⊥)
none_fresh_from_test kind e =
    let last = or_parts ((is_fresh Rays kind || is_fresh Facets kind) || is_fresh Generators kind) (is_fresh HalfSpaces kind) e in
    let third = or_parts (is_fresh Rays kind || is_fresh Facets kind) (is_fresh Generators kind) last.0 in
    let first = or_parts (is_fresh Rays kind) (is_fresh Facets kind) third.0 in
    (not_fresh Rays kind first.0, not_fresh Facets kind first.1, not_fresh Generators kind third.1, not_fresh HalfSpaces kind last.1)

test_none_fresh : (kind : Kind) → EachTag (λ tag. IsFresh tag kind → ⊥) → is_fresh_somewhere kind ≡ false
test_none_fresh kind h =
    or_from ((is_fresh Rays kind || is_fresh Facets kind) || is_fresh Generators kind) (is_fresh HalfSpaces kind)
    (or_from (is_fresh Rays kind || is_fresh Facets kind) (is_fresh Generators kind)
    (or_from (is_fresh Rays kind) (is_fresh Facets kind) (test_not_fresh Rays kind h.0) (test_not_fresh Facets kind h.1)) (test_not_fresh Generators kind h.2))
    (test_not_fresh HalfSpaces kind h.3)

-- what is tested last says whether the rule is in use, where its names are among these
pub in_use_exactly : (names : PropSet) (rule : Rule) (c : Bool) → IsSubset (names_of_rule rule) names → c ≡ (some_program (names_of rule.kind) && is_fresh_somewhere rule.kind)
    → IsTrue (not c) ↔ IsInUse names rule
unfolding some_program
in_use_exactly names rule c known is_c = (
  (λ h. record {
    known = known;
    programs = λ p k q. elim (and_cases (some_program (names_of rule.kind)) (is_fresh_somewhere rule.kind) (sym is_c ∙ not-true c h)) [
      | inl e ↦ absurd (both_ways (some_program (names_of rule.kind)) e
          ((any_property (λ r. has (names_of rule.kind) r && has_program r)).1 (p, and_from (has (names_of rule.kind) p) (has_program p) k q)))
      | inr e ↦ none_fresh_from_test rule.kind e
    ];
  }),
  (λ h. not_from_false c (false_from_ne_true c (λ e.
      let both = and_parts (some_program (names_of rule.kind)) (is_fresh_somewhere rule.kind) (sym is_c ∙ e) in
      let found = (any_property (λ r. has (names_of rule.kind) r && has_program r)).0 both.0 in
      let parts = and_parts (has (names_of rule.kind) found.0) (has_program found.0) found.1 in
      both_ways (is_fresh_somewhere rule.kind) (test_none_fresh rule.kind (h.programs found.0 parts.0 parts.1)) both.1))),
)

-- ---- open
-- what is tested last says whether all is ready, where what is read is held
pub ready_exactly : (step : Step) (held inter : PropSet) (b : Bool) → IsSubset step.inputs held → ((p : PropId) → has inter p ≡ (has step.blocked p && has held p))
    → IsTrue b ↔ ((p : PropId) → has inter p ≡ false) → IsTrue b ↔ IsReady step held
ready_exactly step held inter b given is_inter is_b = (
  (λ h. record {
    given = given;
    free = λ p k. elim (and_cases (has step.blocked p) (has held p) (sym (is_inter p) ∙ is_b.0 h p)) [
      | inl e ↦ e
      | inr e ↦ absurd (both_ways (has held p) e k)
    ];
  }),
  (λ h. is_b.1 (λ p. is_inter p ∙ (elim (cases_Bool (has held p)) [
    | inl e ↦ and_left (has step.blocked p) (has held p) (h.free p e)
    | inr e ↦ and_right (has step.blocked p) (has held p) e
  ]))),
)

-- what is tested last says whether the step can be made, where all is ready
pub open_exactly : (step : Step) (held : PropSet) (c : Bool) → IsReady step held → IsTrue c ↔ IsSubset step.targets held → IsTrue (not c) ↔ IsOpen step held
open_exactly step held c ready is_c = (
  (λ h. record { given = ready.given; free = ready.free; more = one_missing step.targets held (iff_false is_c (not-true c h)) }),
  (λ h. not_from_false c (false_from_ne_true c (λ e. both_ways (has held h.more.0) h.more.2 (is_c.0 e h.more.0 h.more.1)))),
)

-- ---- enabled
pub has-blocked : (kind : Kind) (p : PropId) → has (blocked kind) p ≡ blocks kind p
unfolding blocked
has-blocked kind p = has-set_of_filter (blocks kind) p

-- a property that blocks nothing has no tag in which the kind is fresh
part_false : (tag : Tag) (kind : Kind) (p : PropId) → (is_fresh tag kind && tag_test tag p) ≡ false → IsFresh (tag_test tag) kind → tag_test tag p ≡ false
part_false tag kind p e h = elim (and_cases (is_fresh tag kind) (tag_test tag p) e) [
  | inl k ↦ absurd (not_fresh tag kind k h)
  | inr k ↦ k
]

part_is_false : (tag : Tag) (kind : Kind) (p : PropId) → (IsFresh (tag_test tag) kind → tag_test tag p ≡ false) → (is_fresh tag kind && tag_test tag p) ≡ false
part_is_false tag kind p h = elim (cases_Bool (is_fresh tag kind)) [
  | inl e ↦ and_right (is_fresh tag kind) (tag_test tag p) (h (fresh_from_test tag kind e))
  | inr e ↦ and_left (is_fresh tag kind) (tag_test tag p) e
]

free_from_blocked : (kind : Kind) (held : PropSet) → ((p : PropId) → IsTrue (has held p) → has (blocked kind) p ≡ false) → EachTag (λ tag. IsFresh tag kind → IsFreeOf tag held)
free_from_blocked kind held h =
    let parts = λ (p : PropId) (k : IsTrue (has held p)). or_parts (is_fresh Rays kind && rays_tag p) ((is_fresh Facets kind && facets_tag p) || ((is_fresh Generators kind && generators_tag p) || (is_fresh HalfSpaces kind && half_spaces_tag p))) (sym (has-blocked kind p) ∙ h p k) in
    let rest = λ (p : PropId) (k : IsTrue (has held p)). or_parts (is_fresh Facets kind && facets_tag p) ((is_fresh Generators kind && generators_tag p) || (is_fresh HalfSpaces kind && half_spaces_tag p)) (parts p k).1 in
    let last = λ (p : PropId) (k : IsTrue (has held p)). or_parts (is_fresh Generators kind && generators_tag p) (is_fresh HalfSpaces kind && half_spaces_tag p) (rest p k).1 in (
      (λ f p k. part_false Rays kind p (parts p k).0 f),
      (λ f p k. part_false Facets kind p (rest p k).0 f),
      (λ f p k. part_false Generators kind p (last p k).0 f),
      (λ f p k. part_false HalfSpaces kind p (last p k).1 f),
    )

blocked_from_free : (kind : Kind) (held : PropSet) → EachTag (λ tag. IsFresh tag kind → IsFreeOf tag held) → (p : PropId) → IsTrue (has held p) → has (blocked kind) p ≡ false
blocked_from_free kind held h p k =
    has-blocked kind p ∙ or_from (is_fresh Rays kind && rays_tag p) ((is_fresh Facets kind && facets_tag p) || ((is_fresh Generators kind && generators_tag p) || (is_fresh HalfSpaces kind && half_spaces_tag p)))
    (part_is_false Rays kind p (λ f. h.0 f p k))
    (or_from (is_fresh Facets kind && facets_tag p) ((is_fresh Generators kind && generators_tag p) || (is_fresh HalfSpaces kind && half_spaces_tag p))
    (part_is_false Facets kind p (λ f. h.1 f p k))
    (or_from (is_fresh Generators kind && generators_tag p) (is_fresh HalfSpaces kind && half_spaces_tag p)
    (part_is_false Generators kind p (λ f. h.2 f p k)) (part_is_false HalfSpaces kind p (λ f. h.3 f p k))))

-- a rule in use that is not barred is enabled exactly where its step is open
pub enabled_from_open : (names : PropSet) (barred : List RuleId) (held : PropSet) (id : RuleId) (rule : Rule) → IsInUse names rule → is_barred barred id ≡ false
    → IsOpen (step_of rule) held → IsEnabled names barred held id rule
enabled_from_open names barred held id rule used allowed opened =
    record { in_use = used; allowed = allowed; given = opened.given; fresh = free_from_blocked rule.kind held opened.free; more = opened.more }

pub open_from_enabled : (names : PropSet) (barred : List RuleId) (held : PropSet) (id : RuleId) (rule : Rule) → IsEnabled names barred held id rule → IsOpen (step_of rule) held
open_from_enabled names barred held id rule h =
    record { given = h.given; free = blocked_from_free rule.kind held h.fresh; more = h.more }

pub enabled_exactly : (names : PropSet) (barred : List RuleId) (held : PropSet) (id : RuleId) (rule : Rule) (c : Bool) → IsInUse names rule → is_barred barred id ≡ false
    → IsTrue c ↔ IsOpen (step_of rule) held → IsTrue c ↔ IsEnabled names barred held id rule
enabled_exactly names barred held id rule c used allowed is_c = (
  (λ h. enabled_from_open names barred held id rule used allowed (is_c.0 h)),
  (λ h. is_c.1 (open_from_enabled names barred held id rule h)),
)
